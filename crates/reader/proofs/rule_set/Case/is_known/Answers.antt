use Rattle.std.proofs.Common.{sym, ◌&&◌, ap, ◌∙◌, rules, tests}
use Rattle.std.proofs.lemmas.Iterator.{YieldsList-from_slice}
use Rattle.std.proofs.lemmas.Iterator.Search.{all_from_yields_List}
use Rattle.reader.specs.BlockLines.{known_effect}
use Rattle.words.specs.Words.{each}
use Rattle.words.proofs.WordFacts.{each_is}
use Rattle.reader.proofs.rule_set.Case.is_known.Goals as goal

pub returns-then-is_known : goal.returns-then-is_known
returns-then-is_known c =
    let xs = c.args.self.now.effects.items in
    all_from_yields_List (known_effect c.args.count) _ _ _ c.all.ensures.ran (YieldsList-from_slice xs cc) (λ x b q k. search (rules, tests)) ∙ sym (each_is (known_effect c.args.count) xs) ∙ ap (λ t. t && each (known_effect c.args.count) xs) c.if-is_known.ensures
