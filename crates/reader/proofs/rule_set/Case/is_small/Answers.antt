use Rattle.std.proofs.Common.{sym, ◌∙◌, rules, tests}
use Rattle.std.proofs.lemmas.Iterator.{YieldsList-from_slice}
use Rattle.std.proofs.lemmas.Iterator.Search.{all_from_yields_List}
use Rattle.reader.specs.BlockLines.{small_effect}
use Rattle.words.proofs.WordFacts.{each_is}
use Rattle.reader.proofs.rule_set.Case.is_small.Goals as goal

pub returns : goal.returns
returns c =
    let xs = c.args.self.now.effects.items in
    all_from_yields_List (small_effect c.args.size) _ _ _ c.all.ensures.ran (YieldsList-from_slice xs cc) (λ x b q k. search (rules, tests)) ∙ sym (each_is (small_effect c.args.size) xs)
