use Rattle.std.proofs.Common.{◌≡◌, true, leb, map, vec_items, codes, ap, ◌∙◌}
use Rattle.std.proofs.lemmas.List.{map_push}
use Rattle.std.proofs.lemmas.Bool.{le-leb}
use Rattle.words.specs.Lines.{lines_of}
use Rattle.conditions.specs.Conditions.{tree}
use Rattle.conditions.specs.Variables.{vars_of}
use Rattle.reader.specs.BreakLines.{break_line}
use Rattle.reader.specs.Meanings.{trees_in}
use Rattle.reader.proofs.SectionFacts.{part_refused, turn_fails, turn, section_is}
use Rattle.reader.proofs.scope.Scope.breaks.Goals as goal

pub returns-in_err-cond : goal.returns-in_err-cond
returns-in_err-cond c =
    let vs = vars_of c.args.self.now.known.now in
    let ok : leb c.in_ok-count.count 8 ≡ true = le-leb _ _ c.if-count-gt-MOST_BREAKS.false in
    part_refused trees_in _ _ _ _ _ c.from_residual-in_err-cond.ensures.1 c.in_err-cond.ensures (λ item at e. section_is (λ _. break_line vs) (codes "breaks") (λ k. leb k 8) c.args.reader.now.line _ _ (lines_of c.args.reader.now) _ c.in_ok-count.ensures ok ∙ turn_fails (λ _. break_line vs) _ _ _ _ _ _ c.loop-i.invariant c.loop-i-test.true item at e)

pub loop-i-preserved : goal.loop-i-preserved
loop-i-preserved c =
    let pushed = ap (map tree) c.in_ok-push.ensures.items ∙ map_push tree (vec_items c.loop-i.out) c.in_ok-cond.cond in
    turn (λ _. break_line (vars_of c.args.self.now.known.now)) _ _ _ _ _ _ c.loop-i.invariant c.loop-i-test.true _ _ _ _ c.in_ok-cond.ensures pushed
