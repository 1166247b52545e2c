use Rattle.std.proofs.Common.{sym, ◌∙◌, rules, tests}
use Rattle.std.proofs.lemmas.Iterator.{YieldsList-from_slice}
use Rattle.std.proofs.lemmas.Iterator.Search.{all_from_yields_List}
use Rattle.words.specs.Texts.{plain}
use Rattle.words.proofs.WordFacts.{each_is}
use Rattle.words.proofs.text.all_plain.Goals as goal

pub returns : goal.returns
returns c =
    let xs = c.args.text.now in
    all_from_yields_List plain _ _ _ c.all.ensures.ran (YieldsList-from_slice xs cc) (λ x b q k. search (rules, tests)) ∙ sym (each_is plain xs)
