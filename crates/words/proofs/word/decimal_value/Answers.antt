use Rattle.std.proofs.Common.{◌≡◌, ◌*◌, ◌-◌, ◌+◌, ◌∙◌, ap, length, rules, arith}
use Rattle.std.specs.List.{fold}
use Rattle.std.proofs.iter.runs.Made.{chains}
use Rattle.words.specs.Words.{each, digit}
use Rattle.words.proofs.WordFacts.{decimal_is, few_digits}
use Rattle.words.proofs.word.decimal_value.Goals as goal

pub fold-requires-clause-callable : goal.fold-requires-clause-callable
fold-requires-clause-callable c = record {
  at = λ xs t q x u go chain turn.
      let d = few_digits _ (λ p y v r. search rules) 0 xs _ t u _ q x (omega arith) (omega (arith, c.requires.short, ap length c.iter.ensures.rest)) (ap (each digit) c.iter.ensures.rest ∙ c.requires.digits) go chain turn in
      search rules;
}

pub returns : goal.returns
returns c =
    let xs = c.args.word.now in
    let h : c.fold.result ≡ fold (λ m b. m * 10 + (b - 48)) 0 xs = search (rules, chains) in
    h ∙ decimal_is 0 xs
