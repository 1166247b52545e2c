use Rattle.std.proofs.Common.{sym, ap, arith, codes}
use Rattle.words.specs.Words.{reserved}
use Rattle.words.proofs.WordFacts.{Spells, spelled}
use Rattle.words.proofs.word.is_reserved.Goals as goal

pub returns-in-always-4 : goal.returns-in-always-4
returns-in-always-4 c =
    let w = c.args.word.now in
    let s : Spells w 0 (codes "always") = (omega arith, omega arith, (omega arith, omega arith, (omega arith, omega arith, (omega arith, omega arith, (omega arith, omega arith, (omega arith, omega arith, omega arith)))))) in
    sym (ap reserved (spelled w 0 (codes "always") s))
