use Rattle.std.proofs.Common.{◌≡◌, ◌+◌, true, eqb, map, length, vec_items, codes, sym, ap, ◌∙◌}
use Rattle.std.proofs.lemmas.List.{map_push, length_push}
use Rattle.std.proofs.lemmas.Bool.{eq-eqb}
use Rattle.words.specs.Lines.{lines_of}
use Rattle.conditions.specs.Variables.{vars_of}
use Rattle.reader.specs.BlockLines.{block}
use Rattle.reader.specs.Meanings.{rules_in, blocks_in}
use Rattle.reader.proofs.SectionFacts.{part_refused, turn_fails, turn, section_is}
use Rattle.reader.proofs.scope.Scope.blocks.Goals as goal

pub returns-in_err-block : goal.returns-in_err-block
returns-in_err-block c =
    let vs = vars_of c.args.self.now.known.now in
    let m = c.loop-i.reader.line in
    let more = lines_of c.loop-i.reader in
    let head = rw (sym c.from-count.ensures) at c.in_ok-heading.ensures in
    let ok : eqb c.from-count.result (length vs) ≡ true = eq-eqb _ _ (c.if-count-count_of.false ∙ c.count_of.ensures) in
    part_refused blocks_in _ _ _ _ _ c.from_residual-in_err-block.ensures.1 c.in_err-block.ensures (λ item at e. section_is (λ bs. block vs (length bs)) (codes "blocks") (λ k. eqb k (length vs)) c.args.reader.now.line _ _ (lines_of c.args.reader.now) _ head ok ∙ turn_fails (λ bs. block vs (length bs)) _ _ _ _ _ _ c.loop-i.invariant.0 c.loop-i-test.true item at (ap (λ k. block vs k m more) c.loop-i.invariant.1 ∙ e))

pub loop-i-preserved : goal.loop-i-preserved
loop-i-preserved c =
    let vs = vars_of c.args.self.now.known.now in
    let m = c.loop-i.reader.line in
    let more = lines_of c.loop-i.reader in
    let pushed = ap (map rules_in) c.in_ok-push.ensures.items ∙ map_push rules_in (vec_items c.loop-i.out) c.in_ok-block.block in (
      turn (λ bs. block vs (length bs)) _ _ _ _ _ _ c.loop-i.invariant.0 c.loop-i-test.true _ _ _ _ (ap (λ k. block vs k m more) c.loop-i.invariant.1 ∙ c.in_ok-block.ensures) pushed,
      ap length pushed ∙ length_push (blocks_in c.loop-i.out) (rules_in c.in_ok-block.block) ∙ ap (λ k. k + 1) c.loop-i.invariant.1,
    )
