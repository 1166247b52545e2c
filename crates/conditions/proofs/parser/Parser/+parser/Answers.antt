use Rattle.std.proofs.Common.{sym, ◌∙◌}
use Rattle.std.proofs.lemmas.Result.{err_from_is_err_and}
use Rattle.conditions.specs.Conditions.{both, either, tree}
use Rattle.conditions.proofs.LevelFacts.{ands, ors, joined_left_fails, joined_left, joined_right_fails, joined_right, not_fails, not_below, inner_fails, inner_open, inner_closed, base_compares}
use Rattle.conditions.proofs.parser.Parser.+parser.Goals as goal

pub conjunction-returns-in_err-first : goal.conjunction-returns-in_err-first
conjunction-returns-in_err-first t c =
    let p = err_from_is_err_and c.from_residual.result c.from_residual.ensures.1 in
    rw (p.1, p.2) (joined_left_fails (ands _) _ _ _ c.in_err-first.ensures)

pub conjunction-returns-then-not-skip : goal.conjunction-returns-then-not-skip
conjunction-returns-then-not-skip t c =
    joined_left (ands _) _ _ _ _ c.in_ok-first.ensures (sym c.if-not-skip.ensures.answer) c.if-not-skip.ensures.rest c.if-not-skip.ensures.same

pub conjunction-returns-in_err-second : goal.conjunction-returns-in_err-second
conjunction-returns-in_err-second t c =
    let p = err_from_is_err_and c.from_residual-in_err-second.result c.from_residual-in_err-second.ensures.1 in
    rw (p.1, p.2) (joined_right_fails (ands _) _ _ _ _ c.in_ok-first.ensures _ (sym c.if-not-skip.ensures.answer) (record { rest = c.if-not-skip.ensures.rest; same = c.if-not-skip.ensures.same }) _ c.in_err-second.ensures)

pub conjunction-returns : goal.conjunction-returns
conjunction-returns t c =
    let first = c.in_ok-new.ensures.ok in
    let second = c.in_ok-new-2.ensures.ok in
    joined_right (ands _) _ _ _ _ c.in_ok-first.ensures _ (sym c.if-not-skip.ensures.answer) (record { rest = c.if-not-skip.ensures.rest; same = c.if-not-skip.ensures.same }) _ _ c.in_ok-second.ensures (λ i. both (tree (first i)) (tree (second i)))

pub disjunction-returns-in_err-first : goal.disjunction-returns-in_err-first
disjunction-returns-in_err-first t c =
    let p = err_from_is_err_and c.from_residual.result c.from_residual.ensures.1 in
    rw (p.1, p.2) (joined_left_fails (ors _) _ _ _ c.in_err-first.ensures)

pub disjunction-returns-then-not-skip : goal.disjunction-returns-then-not-skip
disjunction-returns-then-not-skip t c =
    joined_left (ors _) _ _ _ _ c.in_ok-first.ensures (sym c.if-not-skip.ensures.answer) c.if-not-skip.ensures.rest c.if-not-skip.ensures.same

pub disjunction-returns-in_err-second : goal.disjunction-returns-in_err-second
disjunction-returns-in_err-second t c =
    let p = err_from_is_err_and c.from_residual-in_err-second.result c.from_residual-in_err-second.ensures.1 in
    rw (p.1, p.2) (joined_right_fails (ors _) _ _ _ _ c.in_ok-first.ensures _ (sym c.if-not-skip.ensures.answer) (record { rest = c.if-not-skip.ensures.rest; same = c.if-not-skip.ensures.same }) _ c.in_err-second.ensures)

pub disjunction-returns : goal.disjunction-returns
disjunction-returns t c =
    let first = c.in_ok-new.ensures.ok in
    let second = c.in_ok-new-2.ensures.ok in
    joined_right (ors _) _ _ _ _ c.in_ok-first.ensures _ (sym c.if-not-skip.ensures.answer) (record { rest = c.if-not-skip.ensures.rest; same = c.if-not-skip.ensures.same }) _ _ c.in_ok-second.ensures (λ i. either (tree (first i)) (tree (second i)))

pub negation-returns-in_err-inner : goal.negation-returns-in_err-inner
negation-returns-in_err-inner t c =
    let p = err_from_is_err_and c.from_residual.result c.from_residual.ensures.1 in
    rw (p.1, p.2) (not_fails _ _ _ _ (sym c.if-skip.ensures.answer) (record { rest = c.if-skip.ensures.rest; same = c.if-skip.ensures.same }) _ c.in_err-inner.ensures)

pub negation-returns : goal.negation-returns
negation-returns t c =
    not_below _ _ _ _ _ (sym c.if-skip.ensures.answer) c.if-skip.ensures.rest c.if-skip.ensures.same c.primary.ensures

pub primary-returns-in_err-inner : goal.primary-returns-in_err-inner
primary-returns-in_err-inner t c =
    let p = err_from_is_err_and c.from_residual.result c.from_residual.ensures.1 in
    rw (p.1, p.2) (inner_fails _ _ _ _ (sym c.if-skip.ensures.answer) (record { rest = c.if-skip.ensures.rest; same = c.if-skip.ensures.same }) _ c.in_err-inner.ensures)

pub primary-returns-then-not-skip : goal.primary-returns-then-not-skip
primary-returns-then-not-skip t c =
    inner_open _ _ _ _ (sym c.if-skip.ensures.answer) (record { rest = c.if-skip.ensures.rest; same = c.if-skip.ensures.same }) _ c.in_ok-inner.ensures _ (sym c.if-not-skip.ensures.answer) c.if-not-skip.ensures.same

pub primary-returns-then-skip : goal.primary-returns-then-skip
primary-returns-then-skip t c =
    inner_closed _ _ _ _ (sym c.if-skip.ensures.answer) (record { rest = c.if-skip.ensures.rest; same = c.if-skip.ensures.same }) _ c.in_ok-inner.ensures _ (sym c.if-not-skip.ensures.answer) (record { rest = c.if-not-skip.ensures.rest; same = c.if-not-skip.ensures.same })

pub primary-returns : goal.primary-returns
primary-returns t c =
    let none = c.if-skip.ensures in
    let second = c.if-skip-2.ensures in
    let same = c.comparison.ensures.same ∙ second.same ∙ none.same in
    rw c.ok_or.ensures.value (base_compares _ _ _ (sym none.answer) (sym (rw none.rest at second.answer)) same c.comparison.result _ same (rw (second.rest, none.rest) at c.comparison.ensures.says))
