use Rattle.columnsheet.proofs.PartLoops.{Appended}
use Rattle.columnsheet.proofs.parting.part_once.Given as goal

abbrev pub invariant-loop-t : goal.invariant-loop-t
invariant-loop-t g l = Appended l.tuples l.k (g.T.Tests.truth l.tests l.test) l.initial.classes l.classes l.t
