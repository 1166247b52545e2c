-- What a column sheet keeps, as facts of its partition.
use Rattle.std.proofs.Common.{◌≡◌, ℕ, ◌+◌, ◌<◌, ◌≤◌, List, map, length, take, sym, ap, ◌∙◌, subst, arith}
use Rattle.std.specs.List.{range_with_len}
use Rattle.std.proofs.lemmas.List.FromFn.{fill_by_all}
use Rattle.std.proofs.lemmas.List.{get_or-take, length-take-le}
use Rattle.columns.specs.Columns.{Columns, Columned, product}
use Rattle.sheets.specs.Classes.{Classes, class}
use Rattle.sheets.specs.Splits.{SplitInto}
use Rattle.clusters.specs.Makes.{ClustersOf}
use Rattle.clusters.specs.Shapes.{partition}
use Rattle.tuples.specs.Meaning.{sizes_of, clusters_of, count_of}
use Rattle.tuples.specs.Tuples.{width, tuple, part, tuples_before}
use Rattle.tuples.specs.declared.tuple.Tuples.{Tuples}
use Rattle.columnsheet.specs.ColumnSplits.{SplitColumns}
use Rattle.columnsheet.specs.Firsts.{AtomOf, Agree, FirstColumns}
use Rattle.columnsheet.specs.Parting.{Parted}
use Rattle.rules.specs.Rules.{Rules}
use Rattle.columnsheet.proofs.AlikeFacts.{dead}
use Rattle.columnsheet.proofs.DeathFacts.{parted_split}
use Rattle.columnsheet.proofs.FirstFacts.{parted_agree}
use Rattle.columnsheet.specs.Groups.{Grouped}
use Rattle.columnsheet.specs.Joins.{joined}
use Rattle.columnsheet.specs.Kept.{Grouping, parts_of, class_number}
use Rattle.columnsheet.specs.declared.parts.Parts.{Parts}
use Rattle.columnsheet.specs.Sheets.{sheet_classes}
use Rattle.columnsheet.specs.declared.sheet.ColumnSheet.{ColumnSheet}
use Rattle.columnsheet.proofs.OwnTuples.{own_grid, own_some, own_most, own_lawful, own_sized}
use Rattle.columnsheet.proofs.SplitFacts.{columns_into}

-- the table has the class of each state
pub sheet_table : (x : ColumnSheet) (n : ℕ) → n ≡ product (sizes_of x.parts.tuples) → take n x.table ≡ (sheet_classes x).of
sheet_table x n size =
    let long : length (take n x.table) ≡ n = length-take-le n x.table (omega (arith, x.full, own_most x.parts.tuples)) in
    fill_by_all (class_number x.parts) (take n x.table) n 0 long (λ s h. get_or-take n x.table s 0 h ∙ x.told s (omega arith)) ∙ ap (λ n. map (class_number x.parts) (range_with_len 0 n)) size

-- an accepted split: x is parted to y
pub sheet_split : (x y : Parts) (marks : List ℕ) → y.tuples ≡ x.tuples
    → ((k : ℕ) → k < count_of x.tuples → Parted x.tuples k (product (sizes_of x.tuples)) (λ rest. part (sizes_of x.tuples) (clusters_of x.tuples) k rest ≡ 0) (λ rest s. dead marks (rest + s)) (parts_of x k) (parts_of y k))
    → SplitColumns (sizes_of x.tuples) (partition x.tuples.clusters) (parts_of x) marks (joined (product (sizes_of y.tuples)) (count_of y.tuples) (tuple (sizes_of y.tuples) (clusters_of y.tuples)) (parts_of y))
sheet_split x y marks same parted = record {
  each = parts_of y;
  split = λ k h. parted_split x.tuples k marks (parts_of x k) (parts_of y k) h (parted k h);
  joined_is = ap (λ t. joined (product (sizes_of t)) (count_of t) (tuple (sizes_of t) (clusters_of t)) (parts_of y)) same;
}

pub sheet_into : (x : Parts) (marks : List ℕ) (e : Classes) → SplitColumns (sizes_of x.tuples) (partition x.tuples.clusters) (parts_of x) marks e → SplitInto (joined (product (sizes_of x.tuples)) (count_of x.tuples) (tuple (sizes_of x.tuples) (clusters_of x.tuples)) (parts_of x)) marks e
sheet_into x marks e s = columns_into (sizes_of x.tuples) (partition x.tuples.clusters) (parts_of x) marks (own_some x.tuples) (own_grid x.tuples) (own_lawful x) (own_sized x) e s

-- the clusters' tuples at first, over the sizes that the source tells
first_columns : (c : Columns) (p : Parts) → ClustersOf c p.tuples.clusters → ((k : ℕ) → k < count_of p.tuples → Grouping p.tuples k (Agree c (partition p.tuples.clusters) k) (parts_of p k))
    → FirstColumns c (joined (product (sizes_of p.tuples)) (count_of p.tuples) (tuple (sizes_of p.tuples) (clusters_of p.tuples)) (parts_of p))
first_columns c p made first =
    let x = p.tuples in
    record {
      clusters = partition x.clusters;
      clustered = made.clustered;
      few = subst (λ ds. tuples_before ds (clusters_of x) (count_of x) ≤ 1024) made.sizes_are x.most;
      each = parts_of p;
      first = λ k h. subst (λ ds. Grouped (product ds) (width ds (clusters_of x) k) (tuple ds (clusters_of x) k) (Agree c (partition x.clusters) k) (parts_of p k)) made.sizes_are (first k h);
      joined_is = ap (λ ds. joined (product ds) (count_of x) (tuple ds (clusters_of x)) (parts_of p)) made.sizes_are;
    }

-- the tuples x in one class each, as `one` has them, are parted to p by the atoms
pub first_sheet : (r : Rules) (c : Columns) (x : Tuples) (one p : Parts) → Columned r c → ClustersOf c x.clusters → one.tuples ≡ x → p.tuples ≡ one.tuples
    → ((k t : ℕ) → k < count_of x → t < width (sizes_of x) (clusters_of x) k → class (parts_of one k) t ≡ 0)
    → ((k : ℕ) → k < count_of one.tuples → Parted one.tuples k c.atoms (AtomOf c (partition one.tuples.clusters) k) (λ a s. c.truth s a) (parts_of one k) (parts_of p k))
    → FirstColumns c (joined (product (sizes_of p.tuples)) (count_of p.tuples) (tuple (sizes_of p.tuples) (clusters_of p.tuples)) (parts_of p))
first_sheet r c x one p columned made begun kept zero parted =
    let there : x ≡ p.tuples = sym begun ∙ sym kept in
    let own : ClustersOf c p.tuples.clusters = subst (λ y. ClustersOf c y.clusters) there made in
    first_columns c p own
    (λ k h.
    parted_agree p.tuples k h r c columned own (parts_of one k) (parts_of p k)
    (λ t w. subst (λ y. (k t : ℕ) → k < count_of y → t < width (sizes_of y) (clusters_of y) k → class (parts_of one k) t ≡ 0) there zero k t h w)
    (subst (λ y. (k : ℕ) → k < count_of y → Parted y k c.atoms (AtomOf c (partition y.clusters) k) (λ a s. c.truth s a) (parts_of one k) (parts_of p k)) (sym kept) parted k h))
