use Rattle.std.proofs.Common.{◌≡◌, sym, ◌∙◌, rules, tests, true}
use Rattle.std.proofs.lemmas.Iterator.{YieldsList-from_slice}
use Rattle.std.proofs.lemmas.Iterator.Search.{all_from_yields_List}
use Rattle.words.specs.Words.{letter, each}
use Rattle.words.proofs.WordFacts.{each_is}
use Rattle.words.proofs.word.is_name.Goals as goal
use Rattle.words.proofs.word.is_name.Goals.{then-word-le-MOST_LETTERS, else-word-le-MOST_LETTERS}

pub returns-then-all : goal.returns-then-all
returns-then-all c =
    let xs = c.args.word.now in
    let t = c.if-all.true in
    elim c.if-word-le-MOST_LETTERS.branch [
      | then-word-le-MOST_LETTERS w ↦
          let letters : each letter xs ≡ true = each_is letter xs ∙ sym (all_from_yields_List letter _ _ w.all.result w.all.ensures.ran (YieldsList-from_slice xs cc) (λ x b q k. search (rules, tests))) ∙ sym w.value-is ∙ t in
          search rules
      | else-word-le-MOST_LETTERS w ↦ search rules
    ]
