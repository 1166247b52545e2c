use Rattle.std.proofs.Common.{◌≡◌, sym, ◌∙◌, rules, tests, arith, true}
use Rattle.std.proofs.lemmas.Iterator.{YieldsList-from_slice}
use Rattle.std.proofs.lemmas.Iterator.Search.{all_from_yields_List}
use Rattle.std.proofs.lemmas.Grind.{common_steps}
use Rattle.std.proofs.lemmas.Bool.Decides.{nat_tests}
use Rattle.words.specs.Words.{digit, each}
use Rattle.words.proofs.WordFacts.{each_is}
use Rattle.words.proofs.word.number_of.Goals as goal

pub decimal_value-requires-clause-digits : goal.decimal_value-requires-clause-digits
decimal_value-requires-clause-digits c =
    let xs = c.args.word.now in
    each_is digit xs ∙ sym (all_from_yields_List digit _ _ c.all.result c.all.ensures.ran (YieldsList-from_slice xs cc) (λ x b q k. search (rules, tests))) ∙ c.if-not-all.false

pub returns : goal.returns
returns c =
    let xs = c.args.word.now in
    let digits : each digit xs ≡ true = each_is digit xs ∙ sym (all_from_yields_List digit _ _ c.all.result c.all.ensures.ran (YieldsList-from_slice xs cc) (λ x b q k. search (rules, tests))) ∙ c.if-not-all.false in
    grind (arith, common_steps, nat_tests)
