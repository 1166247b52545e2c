use Rattle.clusters.specs.Shapes.{sizes_in, partition}
use Rattle.tuples.proofs.LowestTable.{Lowering}
use Rattle.tuples.proofs.build.lowest_states.Given as goal

abbrev pub invariant-loop-s : goal.invariant-loop-s
invariant-loop-s l = Lowering (sizes_in l.clusters) (partition l.clusters).of (partition l.clusters).count l.s l.lowest
