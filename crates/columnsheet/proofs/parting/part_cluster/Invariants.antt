use Rattle.sheets.specs.Tables.{listed}
use Rattle.columnsheet.specs.Kept.{Grouping}
use Rattle.columnsheet.specs.Parting.{AllSaidAlike}
use Rattle.columnsheet.proofs.parting.part_cluster.Given as goal

abbrev pub invariant-loop-test : goal.invariant-loop-test
invariant-loop-test g l = Grouping l.tuples l.k (AllSaidAlike l.tuples l.k l.test (g.T.Tests.Of l.tests l.tuples l.k) (g.T.Tests.truth l.tests) l.fn.classes) (listed l.count l.classes)
