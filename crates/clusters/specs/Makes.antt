-- The clusters that a columned source has.
use Rattle.std.specs.Prelude.{◌≡◌}
use Rattle.columns.specs.Columns.{Columns}
use Rattle.clusters.specs.Linked.{Clustered}
use Rattle.clusters.specs.Shapes.{sizes_in, partition}
use Rattle.clusters.specs.declared.cluster.Clusters.{Clusters}

-- x has the sizes of c's variables, and their clusters
pub record ClustersOf (c : Columns) (x : Clusters) : Type 0 where
  pub sizes_are : sizes_in x ≡ c.sizes
  pub clustered : Clustered c (partition x)
