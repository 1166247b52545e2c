-- What the clusters of some variables keep, as facts about lists.
use Rattle.std.proofs.Common.{◌≡◌, ◌<◌, length, sym, ◌∙◌, arith, length-take}
use Rattle.std.proofs.lemmas.List.{get_or-take}
use Rattle.clusters.specs.Shapes.{Shape, sizes_in, partition}
use Rattle.clusters.specs.declared.cluster.Clusters.{Clusters}

pub own_sizes : (x : Clusters) → length (sizes_in x) ≡ x.variables
own_sizes x = omega (arith, length-take x.variables x.sizes, x.long, x.few)

pub own_clusters : (x : Clusters) → length (partition x).of ≡ x.variables
own_clusters x = omega (arith, length-take x.variables x.clusters, x.each, x.few)

pub own_shape : (x : Clusters) → Shape (sizes_in x) (partition x).of x.count
own_shape x =
    let long = own_sizes x in
    record {
      some = omega (arith, x.some);
      few = omega (arith, x.few);
      each = own_clusters x ∙ sym long;
      wide = λ v h. let lt : v < x.variables = omega arith in omega (arith, get_or-take x.variables x.sizes v 0 lt, x.wide v lt);
      most = omega (arith, x.made, x.most);
      below = λ v h. let lt : v < x.variables = omega arith in omega (arith, get_or-take x.variables x.clusters v 0 lt, x.below v lt);
      fewer = omega (arith, x.fewer);
    }
