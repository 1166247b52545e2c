-- The tuples of a cluster parted by dead states.
use Rattle.std.proofs.Common.{◌≡◌, ℕ, ◌+◌, ◌<◌, List}
use Rattle.columns.specs.Columns.{product}
use Rattle.sheets.specs.Classes.{Classes}
use Rattle.clusters.specs.Shapes.{partition}
use Rattle.tuples.specs.Meaning.{sizes_of, clusters_of, count_of}
use Rattle.tuples.specs.Tuples.{width, tuple, part}
use Rattle.tuples.specs.declared.tuple.Tuples.{Tuples}
use Rattle.columnsheet.specs.ColumnSplits.{SplitCluster}
use Rattle.columnsheet.specs.Parting.{AllSaidAlike, Parted}
use Rattle.columnsheet.proofs.AlikeFacts.{dead, alike_rests}
use Rattle.columnsheet.proofs.GroupFacts.{grouped_as}
use Rattle.columnsheet.proofs.OwnTuples.{own_grid}

pub parted_split : (x : Tuples) (k : ℕ) (marks : List ℕ) (d e : Classes) → k < count_of x → Parted x k (product (sizes_of x)) (λ rest. part (sizes_of x) (clusters_of x) k rest ≡ 0) (λ rest s. dead marks (rest + s)) d e
    → SplitCluster (sizes_of x) (partition x.clusters) marks k d e
parted_split x k marks d e hk parted =
    let n = product (sizes_of x) in
    let q = part (sizes_of x) (clusters_of x) in
    grouped_as _ _ _ (AllSaidAlike x k n (λ rest. q k rest ≡ 0) (λ rest s. dead marks (rest + s)) d.of) _ e
    (λ s t hs ht.
    let alike = alike_rests n (count_of x) (width (sizes_of x) (clusters_of x)) (tuple (sizes_of x) (clusters_of x)) q (own_grid x) marks k s t hk hs ht in
    ((λ a. (a.0, alike.1 a.1)), (λ a. (a.0, alike.0 a.1)))) parted
