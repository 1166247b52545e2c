-- The column sheet at first: tuples that agree on all atoms of their cluster form a class.
use Rattle.std.specs.Prelude.{◌≡◌, ℕ, ◌<◌, ◌≤◌, true}
use Rattle.columns.specs.Columns.{Columns, product}
use Rattle.sheets.specs.Classes.{Classes, states, class}
use Rattle.clusters.specs.Linked.{Clustered}
use Rattle.tuples.specs.Tuples.{width, tuple, tuples_before}
use Rattle.columnsheet.specs.Groups.{Grouped}
use Rattle.columnsheet.specs.Joins.{joined}

-- the atom a is one of the cluster k: it reads a variable there
pub record AtomOf (c : Columns) (p : Classes) (k a : ℕ) : Type 0 where
  pub variable : ℕ
  pub inside : variable < states p
  pub there : class p variable ≡ k
  pub read : c.reads a variable ≡ true

-- two states agree on all atoms of the cluster k
abbrev pub Agree : Columns → Classes → ℕ → ℕ → ℕ → Type 0
Agree c p k s t = (a : ℕ) → AtomOf c p k a → c.truth s a ≡ c.truth t a

-- d is the partition of the cluster k's tuples: those that agree on all atoms of the cluster form a class
abbrev pub FirstCluster : Columns → Classes → ℕ → Classes → Type 0
FirstCluster c p k d = Grouped (product c.sizes) (width c.sizes p.of k) (tuple c.sizes p.of k) (Agree c p k) d

-- e is the partition of the states that the tuples' classes make; the clusters have at most 1024 tuples in all
pub record FirstColumns (c : Columns) (e : Classes) : Type 0 where
  pub clusters : Classes
  pub clustered : Clustered c clusters
  pub few : tuples_before c.sizes clusters.of clusters.count ≤ 1024
  pub each : ℕ → Classes
  pub first : (k : ℕ) → k < clusters.count → FirstCluster c clusters k (each k)
  pub joined_is : e ≡ joined (product c.sizes) clusters.count (tuple c.sizes clusters.of) each

-- the clusters have over 1024 tuples in all
pub record HasTooManyTuples (c : Columns) : Type 0 where
  pub clusters : Classes
  pub clustered : Clustered c clusters
  pub many : 1024 < tuples_before c.sizes clusters.of clusters.count
