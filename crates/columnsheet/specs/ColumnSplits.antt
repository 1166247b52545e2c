-- What the column sheet makes of a split (refinement by projections): every cluster is refined by the dead states alone.
use Rattle.std.specs.Prelude.{◌≡◌, ℕ, ◌<◌, ◌≢◌, List, ◌==◌, slice_index}
use Rattle.columns.specs.Columns.{product}
use Rattle.sheets.specs.Classes.{Classes, class}
use Rattle.tuples.specs.Tuples.{width, tuple}
use Rattle.columnsheet.specs.Groups.{Grouped}
use Rattle.columnsheet.specs.Joins.{joined}

-- The states v and w have the tuples that the cluster k has in s and in t, and agree in all other clusters.
pub record Exchanged (n m : ℕ) (tuple : ℕ → ℕ → ℕ) (k s t v w : ℕ) : Type 0 where
  pub first_state : v < n
  pub second_state : w < n
  pub first : tuple k v ≡ tuple k s
  pub second : tuple k w ≡ tuple k t
  pub others : (j : ℕ) → j < m → j ≢ k → tuple j v ≡ tuple j w

-- for every choice of the other clusters' tuples, the tuples of k in s and in t both give dead states, which have the mark 1, or neither does
abbrev pub Alike : ℕ → ℕ → (ℕ → ℕ → ℕ) → List ℕ → ℕ → ℕ → ℕ → Type 0
Alike n m tuple marks k s t = (v w : ℕ) → Exchanged n m tuple k s t v w → (slice_index marks v == 1) ≡ (slice_index marks w == 1)

-- e is what becomes of the partition d of the cluster k's tuples: two of one class stay together exactly if they are alike
abbrev pub SplitCluster : List ℕ → Classes → List ℕ → ℕ → Classes → Classes → Type 0
SplitCluster ds p marks k d e = Grouped (product ds) (width ds p.of k) (tuple ds p.of k) (λ s t. (class d (tuple ds p.of k s) ≡ class d (tuple ds p.of k t)) × Alike (product ds) p.count (tuple ds p.of) marks k s t) e

-- d has the partition of each cluster's tuples before the split, and e is the partition of the states after it
pub record SplitColumns (ds : List ℕ) (p : Classes) (d : ℕ → Classes) (marks : List ℕ) (e : Classes) : Type 0 where
  pub each : ℕ → Classes
  pub split : (k : ℕ) → k < p.count → SplitCluster ds p marks k (d k) (each k)
  pub joined_is : e ≡ joined (product ds) p.count (tuple ds p.of) each
