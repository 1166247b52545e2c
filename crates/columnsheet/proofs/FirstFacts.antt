-- The tuples of a cluster parted by its atoms.
use Rattle.std.proofs.Common.{◌≡◌, ℕ, ◌<◌, Bool, true, false, length, get_or, sym, refl, ap, ◌∙◌, subst, arith}
use Rattle.std.specs.Bool.{MatchBool, Decides}
use Rattle.std.specs.List.{range_with_len, HoldsAt, AllWithin}
use Rattle.std.proofs.lemmas.Bool.{both_ways}
use Rattle.std.proofs.lemmas.List.FromFn.{length-range_with_len, get_or-range_with_len}
use Rattle.rules.specs.Rules.{Rules}
use Rattle.columns.specs.Columns.{Columns, Columned, product, value}
use Rattle.sheets.specs.Classes.{Classes, states, class}
use Rattle.clusters.specs.Linked.Linked.{alone, along}
use Rattle.clusters.specs.Makes.{ClustersOf}
use Rattle.clusters.specs.Shapes.{partition}
use Rattle.clusters.proofs.Own.{own_shape}
use Rattle.tuples.specs.Meaning.{sizes_of, clusters_of, count_of}
use Rattle.tuples.specs.Tuples.{width, part}
use Rattle.tuples.specs.declared.tuple.Tuples.{Tuples}
use Rattle.tuples.proofs.StateGrid.{part_below, part_value}
use Rattle.columnsheet.specs.Firsts.{AtomOf, Agree}
use Rattle.columnsheet.specs.Kept.{Grouping}
use Rattle.columnsheet.specs.Parting.{AllSaidAlike, Parted}
use Rattle.columnsheet.proofs.GroupFacts.{grouped_as}
use Rattle.columnsheet.proofs.OwnTuples.{own_grid}

module _ (x : Tuples) (k : ℕ) (hk : k < count_of x) (r : Rules) (c : Columns) (columned : Columned r c) (made : ClustersOf c x.clusters) where
  -- all that an atom of the cluster reads stands in the cluster
  all_there : (a v : ℕ) → AtomOf c (partition x.clusters) k a → c.reads a v ≡ true → (v < length (sizes_of x)) × (get_or (clusters_of x) v 0 ≡ k)
  all_there a v own read =
      let known = made.clustered in
      let within : v < length c.sizes = columned.reads_variable a v read in
      let lv : v < states (partition x.clusters) = omega (arith, known.variables_are) in
      let same = (known.together own.variable v own.inside lv).1 (along a (alone own.variable) own.read read) in
      (omega (arith, ap length made.sizes_are), sym same ∙ own.there)

  -- so its truth goes by the tuple
  truth_part : (a s : ℕ) → AtomOf c (partition x.clusters) k a → s < product (sizes_of x) → c.truth (part (sizes_of x) (clusters_of x) k s) a ≡ c.truth s a
  truth_part a s own hs =
      let shape = own_shape x.clusters in
      let size : product (sizes_of x) ≡ r.size = ap product made.sizes_are ∙ columned.states in
      let low = part_below (sizes_of x) (clusters_of x) (count_of x) k s shape hs in
      columned.depends (part (sizes_of x) (clusters_of x) k s) s a (omega arith) (omega arith)
      (λ v read.
      let there = all_there a v own read in
      subst (λ l. value l (part (sizes_of x) (clusters_of x) k s) v ≡ value l s v) made.sizes_are (part_value (sizes_of x) (clusters_of x) (count_of x) k s v shape hs there.0 there.1))

  -- tuples of one class, parted by the atoms
  pub parted_agree : (d e : Classes) → ((t : ℕ) → t < width (sizes_of x) (clusters_of x) k → class d t ≡ 0) → Parted x k c.atoms (AtomOf c (partition x.clusters) k) (λ a s. c.truth s a) d e → Grouping x k (Agree c (partition x.clusters) k) e
  parted_agree d e one parted =
      let p = partition x.clusters in
      grouped_as _ _ _ (AllSaidAlike x k c.atoms (AtomOf c p k) (λ a s. c.truth s a) d.of) (Agree c p k) e
      (λ s t hs ht. (
        (λ alike a own. sym (truth_part a s own hs) ∙ alike.1 a (omega (arith, columned.reads_atom a own.variable own.read)) own ∙ truth_part a t own ht),
        (λ agree. (one _ ((own_grid x).below k s hk hs) ∙ sym (one _ ((own_grid x).below k t hk ht)), λ a h own. truth_part a s own hs ∙ agree a own ∙ sym (truth_part a t own ht))),
      )) parted

-- whether an atom reads a variable of the cluster, by an answer for each variable
abbrev pub ReadsThere : Columns → Classes → ℕ → ℕ → ℕ → Type 0
ReadsThere c p k a v = (class p v ≡ k) × (c.reads a v ≡ true)

pub reads_decides : (c : Columns) (p : Classes) (k a n : ℕ) (r : Bool) → n ≡ states p → MatchBool r ((i : ℕ) × (i < length (range_with_len 0 n)) × HoldsAt (ReadsThere c p k a) (range_with_len 0 n) i) (AllWithin (λ v. ReadsThere c p k a v → ⊥) (range_with_len 0 n) 0 (length (range_with_len 0 n))) → Decides r (AtomOf c p k a)
reads_decides c p k a n true size m =
    let i = m.0 in
    let lt : i < n = omega (arith, m.1, length-range_with_len 0 n) in
    let place : get_or (range_with_len 0 n) i 0 ≡ i = omega (arith, get_or-range_with_len 0 n i 0 lt) in
    let there = subst (ReadsThere c p k a) place (m.2 0) in
    ((λ e. record { variable = i; inside = omega arith; there = there.0; read = there.1 }), (λ own. refl))
reads_decides c p k a n false size m = (
  (λ e. absurd (both_ways false refl e)),
  (λ own.
      let lt : own.variable < n = omega (arith, own.inside) in
      let place : get_or (range_with_len 0 n) own.variable 0 ≡ own.variable = omega (arith, get_or-range_with_len 0 n own.variable 0 lt) in
      absurd (subst (λ v. ReadsThere c p k a v → ⊥) place (m own.variable 0 (omega arith) (omega (arith, length-range_with_len 0 n))) (own.there, own.read))),
)
