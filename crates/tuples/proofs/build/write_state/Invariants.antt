use Rattle.std.proofs.Common.{length}
use Rattle.clusters.specs.Shapes.{sizes_in, partition}
use Rattle.tuples.specs.Tables.{place, Written}
use Rattle.tuples.proofs.build.write_state.Given as goal

abbrev pub invariant-loop-start : goal.invariant-loop-start
invariant-loop-start l =
    (goal.iterator-loop-start).can_next l.start-iterator
    × (goal.iterator-loop-start).is_finite l.start-iterator
    × Written (place (sizes_in l.clusters) (partition l.clusters).of l.s) (length l.yielded) l.s l.initial.lowest l.lowest
