use Rattle.std.proofs.Common.{Bor, ◌≡◌, ◌∙◌, ap, length, rules, tests}
use Rattle.std.specs.List.{position}
use Rattle.std.specs.Option.{unwrap_or}
use Rattle.std.specs.Str.{bytes_eq}
use Rattle.std.proofs.lemmas.Iterator.{YieldsList-from_slice}
use Rattle.std.proofs.lemmas.Iterator.Search.{position_from_yields_List}
use Rattle.words.specs.Words.{Word}
use Rattle.conditions.specs.declared.variable.Variable.{Variable}
use Rattle.conditions.proofs.VariableFacts.{place_first}
use Rattle.conditions.proofs.variable.place_of.Goals as goal

pub returns : goal.returns
returns c =
    let ds = c.args.known.now in
    let w = c.args.name.now in
    let first : c.position.result ≡ position (λ (d : Variable (Bor Word)). bytes_eq d.name.now w) ds = position_from_yields_List (λ (d : Variable (Bor Word)). bytes_eq d.name.now w) _ _ c.position.result c.position.ensures.ran (YieldsList-from_slice ds cc) (λ x b q k. search (rules, tests)) in
    c.unwrap_or.ensures ∙ ap (λ o. unwrap_or o (length ds)) first ∙ place_first ds w
