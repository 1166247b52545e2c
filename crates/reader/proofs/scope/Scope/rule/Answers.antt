use Rattle.std.proofs.Common.{[], length, sym, ap, ◌∙◌, arith}
use Rattle.std.proofs.lemmas.Result.{err_from_is_err_and}
use Rattle.words.specs.Lines.{left}
use Rattle.words.proofs.WordFacts.{after_shorter}
use Rattle.conditions.specs.Conditions.{tree}
use Rattle.conditions.specs.Parser.{depth}
use Rattle.conditions.specs.Grammar.{or_level}
use Rattle.conditions.specs.Variables.{names_of}
use Rattle.reader.specs.CaseWords.{effects, rule}
use Rattle.reader.proofs.FaultFacts.{part_fails}
use Rattle.reader.proofs.EffectFacts.{rule_fails}
use Rattle.reader.proofs.scope.Scope.rule.Goals as goal

pub returns-in_err-effects : goal.returns-in_err-effects
returns-in_err-effects c =
    let p = err_from_is_err_and c.from_residual-in_err-effects.result c.from_residual-in_err-effects.ensures.1 in
    let ns = names_of c.args.self.now.known.now in
    let ws = left c.args.line.now in
    let rest = left c.disjunction.new.line in
    let is = c.in_ok-cond.ensures.says (depth or_level ws) (omega arith) in
    let skip = c.if-not-skip.ensures in
    rw (p.1, p.2) (part_fails c.in_err-effects.field-0.0 (effects ns (length rest) [] (left c.skip.new.self)) (rule ns ws) c.skip.new.self.number c.args.line.now.number (skip.same ∙ c.in_ok-cond.ensures.same) (λ none. rule_fails ns ws (tree c.in_ok-cond.cond) rest is (sym skip.answer) (ap (effects ns (length rest) []) (sym skip.rest) ∙ none)) (c.in_err-effects.ensures (length rest) (omega (arith, ap length skip.rest, after_shorter rest))))
