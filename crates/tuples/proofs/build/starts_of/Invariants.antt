use Rattle.std.proofs.Common.{◌≡◌, ℕ, ◌<◌, get_or}
use Rattle.clusters.specs.Shapes.{sizes_in, partition}
use Rattle.tuples.specs.Tuples.{tuples_before}
use Rattle.tuples.proofs.build.starts_of.Given as goal

abbrev pub invariant-loop-k : goal.invariant-loop-k
invariant-loop-k l = record {
  ended : l.end ≡ tuples_before (sizes_in l.clusters) (partition l.clusters).of l.k;
  started : (j : ℕ) → j < l.k → get_or l.start-items j 0 ≡ tuples_before (sizes_in l.clusters) (partition l.clusters).of j;
}
