-- What the tables of a column sheet stand for.
use Rattle.std.specs.Prelude.{ℕ}
use Rattle.columns.specs.Columns.{product, number}
use Rattle.sheets.specs.Classes.{Classes}
use Rattle.tuples.specs.Meaning.{sizes_of, clusters_of, count_of}
use Rattle.tuples.specs.Tuples.{width, tuple}
use Rattle.tuples.specs.declared.tuple.Tuples.{Tuples}
use Rattle.columnsheet.specs.Groups.{Grouped, held}
use Rattle.columnsheet.specs.Joins.{counts_of, cluster_classes}
use Rattle.columnsheet.specs.declared.parts.Parts.{Parts}

-- the partition of each cluster's tuples
abbrev pub parts_of : Parts → ℕ → Classes
parts_of x = held (sizes_of x.tuples) (clusters_of x.tuples) x.classes x.counts

-- d is a partition of the cluster k's tuples by what E says of the states that have them
abbrev pub Grouping : Tuples → ℕ → (ℕ → ℕ → Type 0) → Classes → Type 0
Grouping x k E d = Grouped (product (sizes_of x)) (width (sizes_of x) (clusters_of x) k) (tuple (sizes_of x) (clusters_of x) k) E d

-- the class number of the state s
abbrev pub class_number : Parts → ℕ → ℕ
class_number x s = number (counts_of (count_of x.tuples) (parts_of x)) (cluster_classes (count_of x.tuples) (tuple (sizes_of x.tuples) (clusters_of x.tuples)) (parts_of x) s)

-- how many classes of states there are
abbrev pub class_count : Parts → ℕ
class_count x = product (counts_of (count_of x.tuples) (parts_of x))
