use Rattle.std.proofs.Common.{◌≡◌, ◌*◌, true, map, vec_items, codes, sym, ap, ◌∙◌}
use Rattle.std.proofs.lemmas.List.{map_push}
use Rattle.words.specs.Words.{within}
use Rattle.words.specs.Lines.{lines_of}
use Rattle.conditions.specs.Variables.{var_of}
use Rattle.reader.specs.VariableLines.{variable, product}
use Rattle.reader.specs.Meanings.{vars_in}
use Rattle.reader.proofs.SectionFacts.{part_refused, turn_fails, turn, section_is, product_push, within_range}
use Rattle.reader.proofs.variables.variables.Goals as goal

pub returns-in_err-v : goal.returns-in_err-v
returns-in_err-v c =
    let says = rw c.deref.ensures.value at c.in_err-v.ensures.tells in
    let ok : within 1 12 c.in_ok-count.count ≡ true = within_range 1 12 _ c.new.ensures.start c.new.ensures.end c.if-not-contains.ensures.cases in
    part_refused vars_in _ _ _ _ _ c.from_residual-in_err-v.ensures.1 says (λ item at e. section_is variable (codes "variables") (within 1 12) c.args.reader.now.line _ _ (lines_of c.args.reader.now) _ c.in_ok-count.ensures ok ∙ turn_fails variable _ _ _ _ _ _ c.loop-i.invariant.0 c.loop-i-test.true item at e)

pub loop-i-preserved : goal.loop-i-preserved
loop-i-preserved c =
    let says = rw c.deref.ensures.value at c.in_ok-v.ensures.tells in
    let pushed = ap (map var_of) c.in_ok-push.ensures.items ∙ map_push var_of (vec_items c.loop-i.known) c.in_ok-v.v in (
      turn variable _ _ _ _ _ _ c.loop-i.invariant.0 c.loop-i-test.true _ _ _ _ says pushed,
      rw c.from-states.ensures c.in_ok-v.ensures.bounded,
      (λ i. c.loop-i.invariant.2 i * c.from-states.ensures i) ∙ sym (product_push _ (var_of c.in_ok-v.v)) ∙ ap product (sym pushed),
    )
