use Rattle.std.proofs.Common.{length}
use Rattle.clusters.specs.Shapes.{sizes_in, partition}
use Rattle.tuples.proofs.Gathering.{Gathering}
use Rattle.tuples.proofs.state.tuples_in.Given as goal

abbrev pub invariant-loop-size : goal.invariant-loop-size
invariant-loop-size l =
    (goal.iterator-loop-size).can_next l.size-iterator
    × (goal.iterator-loop-size).is_finite l.size-iterator
    × Gathering (sizes_in l.clusters) (partition l.clusters).of l.s l.tuples (length l.yielded) l.w l.rest
