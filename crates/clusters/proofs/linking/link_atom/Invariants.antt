use Rattle.clusters.proofs.Loops.{Joining}
use Rattle.clusters.proofs.linking.link_atom.Given as goal

abbrev pub invariant-loop-v : goal.invariant-loop-v
invariant-loop-v g l = Joining (g.C.ColumnedSource.columns l.source).reads l.atom l.first l.v l.initial.labels l.labels
