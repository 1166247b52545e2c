-- The sizes of some variables, and the cluster of each.
use Rattle.std.specs.Prelude.{◌≡◌, ℕ, ◌<◌, ◌≤◌, List, length, take, slice_index}
use Rattle.columns.specs.Columns.{product}
use Rattle.sheets.specs.Classes.{Classes}
use Rattle.clusters.specs.declared.cluster.Clusters.{Clusters}

-- ds has the size of each variable, cs its cluster, and m is how many clusters there are
pub record Shape (ds cs : List ℕ) (m : ℕ) : Type 0 where
  pub some : 1 ≤ length ds
  pub few : length ds ≤ 12
  pub each : length cs ≡ length ds
  pub wide : (v : ℕ) → v < length ds → 2 ≤ slice_index ds v
  pub most : product ds ≤ 4096
  pub below : (v : ℕ) → v < length ds → slice_index cs v < m
  pub fewer : m ≤ length ds

-- what a value of the type stands for: the sizes of its variables, and their partition into clusters
abbrev pub sizes_in : Clusters → List ℕ
sizes_in x = take x.variables x.sizes

abbrev pub partition : Clusters → Classes
partition x = record { of = take x.variables x.clusters; count = x.count }
