use Rattle.std.proofs.Common.{Bor, ◌∙◌, rules, tests}
use Rattle.std.specs.Str.{bytes_eq}
use Rattle.std.proofs.lemmas.Iterator.{YieldsList-from_slice}
use Rattle.std.proofs.lemmas.Iterator.Search.{any_from_yields_List}
use Rattle.words.specs.Words.{Word}
use Rattle.conditions.specs.declared.variable.Variable.{Variable}
use Rattle.conditions.proofs.VariableFacts.{declared_is}
use Rattle.conditions.proofs.variable.is_declared.Goals as goal

pub returns : goal.returns
returns c =
    let ds = c.args.known.now in
    let w = c.args.name.now in
    any_from_yields_List (λ (d : Variable (Bor Word)). bytes_eq d.name.now w) _ _ c.any.result c.any.ensures.ran (YieldsList-from_slice ds cc) (λ x b q k. search (rules, tests)) ∙ declared_is ds w
