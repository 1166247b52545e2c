use Rattle.std.proofs.Common.{map, vec_items, ap, ◌∙◌}
use Rattle.std.proofs.lemmas.List.{map_push}
use Rattle.words.specs.Lines.{lines_of}
use Rattle.conditions.specs.Variables.{vars_of}
use Rattle.reader.specs.BlockLines.{block_line}
use Rattle.reader.specs.Meanings.{rule_of, rules_in}
use Rattle.reader.proofs.SectionFacts.{part_refused, turn_fails, turn, block_is}
use Rattle.reader.proofs.scope.Scope.block.Goals as goal

pub returns-in_err-case : goal.returns-in_err-case
returns-in_err-case c =
    let vs = vars_of c.args.self.now.known.now in
    let i = c.args.i in
    part_refused rules_in _ _ _ _ _ c.from_residual-in_err-case.ensures.1 c.in_err-case.ensures (λ item at e. block_is vs i c.args.reader.now.line _ _ (lines_of c.args.reader.now) _ c.in_ok-count.ensures ∙ turn_fails (λ _. block_line vs i) _ _ _ _ _ _ c.loop-j.invariant c.loop-j-test.true item at e)

pub loop-j-preserved : goal.loop-j-preserved
loop-j-preserved c =
    let pushed = ap (map rule_of) c.in_ok-push.ensures.items ∙ map_push rule_of (vec_items c.loop-j.cases) c.in_ok-case.case in
    turn (λ _. block_line (vars_of c.args.self.now.known.now) c.args.i) _ _ _ _ _ _ c.loop-j.invariant c.loop-j-test.true _ _ _ _ c.in_ok-case.ensures pushed
