use Rattle.sheets.proofs.Ranks.{Ranked}
use Rattle.sheets.proofs.numbering.renumber.Given as goal

abbrev pub invariant-loop-x : goal.invariant-loop-x
invariant-loop-x l = Ranked l.initial.table l.table l.numbers l.x-index l.count
