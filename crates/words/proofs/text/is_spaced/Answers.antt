use Rattle.std.proofs.Common.{eqb, ◌∙◌, rules, tests}
use Rattle.std.proofs.lemmas.Iterator.Splits.{YieldsList-from_slice_split}
use Rattle.std.proofs.lemmas.Iterator.Search.{all_from_yields_List}
use Rattle.words.proofs.WordFacts.{full, spaced_is}
use Rattle.words.proofs.text.is_spaced.Goals as goal

pub returns : goal.returns
returns c =
    let l = c.args.line.now in
    let split = c.split.ensures in
    all_from_yields_List full _ _ c.all.result c.all.ensures.ran (YieldsList-from_slice_split _ (λ b. eqb b 32) l split.rest split.done split.closure (λ x b q k. search (rules, tests))) (λ x b q k. search (rules, tests)) ∙ spaced_is l
