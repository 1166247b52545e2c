use Rattle.std.proofs.Common.{◌≡◌, None, Ok, Err, ap, ◌∙◌, arith}
use Rattle.std.proofs.lemmas.Result.{err_from_is_err_and}
use Rattle.words.specs.Lines.{left}
use Rattle.words.specs.declared.fault.WordFault.TheVariants.{Form}
use Rattle.conditions.specs.Conditions.{tree}
use Rattle.conditions.specs.Grammar.{or_level}
use Rattle.conditions.specs.Parser.{ended, alone, condition, depth}
use Rattle.conditions.specs.Variables.{names_of}
use Rattle.conditions.specs.declared.fault.ConditionFault.TheVariants.{Word}
use Rattle.conditions.proofs.LevelFacts.{passes_on}
use Rattle.conditions.proofs.Sound.{takes}
use Rattle.conditions.proofs.parser.whole_condition.Goals as goal

pub returns-in_err-cond : goal.returns-in_err-cond
returns-in_err-cond c =
    let p = err_from_is_err_and c.from_residual.result c.from_residual.ensures.1 in
    let ns = names_of c.args.known.now in
    let ws = left c.args.line.now in
    let fault = c.in_err-cond.field-0.0 in
    let h = passes_on fault (condition ns ws) (alone (condition ns ws)) c.args.line.now.number (λ none. ap alone none) (c.in_err-cond.ensures.says (depth or_level ws) (omega arith)) in
    rw (p.1, p.2) (record { takes = takes ns ws _ (Err fault) h; formed = h })

pub returns-in-None : goal.returns-in-None
returns-in-None c =
    let ns = names_of c.args.known.now in
    let ws = left c.args.line.now in
    let cond = c.in_ok-cond.cond in
    let h = ap alone (c.in_ok-cond.ensures.says (depth or_level ws) (omega arith)) ∙ ap (ended (tree cond)) c.in-None.ensures.handed.0 in
    record { takes = takes ns ws c.args.line.now.number (Ok cond) h; formed = h }

pub returns-in-Some : goal.returns-in-Some
returns-in-Some c =
    let ns = names_of c.args.known.now in
    let ws = left c.args.line.now in
    let cond = c.in_ok-cond.cond in
    let word = c.in-Some.ensures.handed in
    let none : alone (condition ns ws) ≡ None = ap alone (c.in_ok-cond.ensures.says (depth or_level ws) (omega arith)) ∙ ap (ended (tree cond)) word.0 in
    let at = ap Form (word.1 ∙ c.in_ok-cond.ensures.same) in
    record { takes = takes ns ws c.args.line.now.number (Err (Word (Form c.in-Some.word.line))) (none, at); formed = (none, at) }
