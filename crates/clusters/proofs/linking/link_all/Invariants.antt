use Rattle.clusters.proofs.Loops.{Spanning}
use Rattle.clusters.proofs.linking.link_all.Given as goal

abbrev pub invariant-loop-atom : goal.invariant-loop-atom
invariant-loop-atom g l = Spanning (g.C.ColumnedSource.columns l.source).reads l.n l.atom l.labels
