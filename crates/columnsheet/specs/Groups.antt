-- Partitions of the tuples of one cluster.
use Rattle.std.specs.Prelude.{◌≡◌, ℕ, ◌+◌, ◌<◌, ◌↔◌, List, slice_index, slice_range}
use Rattle.sheets.specs.Classes.{Classes, states, class, Lawful}
use Rattle.sheets.specs.Tables.{listed}
use Rattle.sheets.specs.Whole.{Numbered}
use Rattle.tuples.specs.Tuples.{tuples_before}

-- d is a partition of a cluster's w tuples, numbered by lowest tuple: the tuples of two of the n states share a class exactly if E holds of the states
pub record Grouped (n w : ℕ) (tuple : ℕ → ℕ) (E : ℕ → ℕ → Type 0) (d : Classes) : Type 0 where
  pub lawful : Lawful d
  pub tuples_are : states d ≡ w
  pub numbered : Numbered d
  pub together : (s t : ℕ) → s < n → t < n → (class d (tuple s) ≡ class d (tuple t)) ↔ E s t

-- the entries of a table from one place to another
abbrev pub piece : ℕ → ℕ → List ℕ → List ℕ
piece from to table = slice_range table from to

-- the partition of the cluster k's tuples in a table that has the tuples of all clusters, one cluster after the other, and the counts of their classes
abbrev pub held : List ℕ → List ℕ → List ℕ → List ℕ → ℕ → Classes
held ds cs parts counts k = listed (slice_index counts k) (piece (tuples_before ds cs k) (tuples_before ds cs (k + 1)) parts)
