-- The variables behind some tuples.
use Rattle.std.specs.Prelude.{ℕ, List}
use Rattle.clusters.specs.Shapes.{sizes_in, partition}
use Rattle.tuples.specs.declared.tuple.Tuples.{Tuples}

-- the size of each variable, its cluster, and how many clusters there are
abbrev pub sizes_of : Tuples → List ℕ
sizes_of x = sizes_in x.clusters

abbrev pub clusters_of : Tuples → List ℕ
clusters_of x = (partition x.clusters).of

abbrev pub count_of : Tuples → ℕ
count_of x = (partition x.clusters).count
