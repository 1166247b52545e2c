-- What a column sheet's tables keep, as facts about partitions.
use Rattle.std.proofs.Common.{◌≡◌, ℕ, ◌+◌, ◌-◌, ◌<◌, ◌≤◌, true, eqb, ltb, get_or, replicate, ◌∙◌, arith}
use Rattle.std.proofs.lemmas.List.{get_or-replicate}
use Rattle.std.proofs.lemmas.List.Edits.{length-between, get_or-between}
use Rattle.std.proofs.lemmas.Bool.{and_parts, and_from, ltb-true, lt-ltb, eqb-true, eq-eqb}
use Rattle.columns.specs.Columns.{product, each_below}
use Rattle.columns.proofs.Digits.{product_positive}
use Rattle.columns.proofs.EachBelow.{each_below_at, each_below_from}
use Rattle.sheets.specs.Classes.{Classes, states, class, Lawful}
use Rattle.sheets.specs.Structure.{any}
use Rattle.sheets.proofs.Any.{some_from_any, any_from_some}
use Rattle.sheets.proofs.Counts.{count_most}
use Rattle.clusters.proofs.Own.{own_shape}
use Rattle.tuples.specs.Meaning.{sizes_of, clusters_of, count_of}
use Rattle.tuples.specs.Tuples.{width, tuple, part, tuples_before}
use Rattle.tuples.specs.declared.tuple.Tuples.{Tuples}
use Rattle.tuples.proofs.Grids.{Grid}
use Rattle.tuples.proofs.StateGrid.{grid, wide_positive}
use Rattle.tuples.proofs.Widths.{before_more, before_rises}
use Rattle.columnsheet.specs.Groups.{held}
use Rattle.columnsheet.specs.Joins.{joined, lawful_test, all_lawful}
use Rattle.columnsheet.specs.Kept.{parts_of, class_count}
use Rattle.columnsheet.specs.declared.parts.Parts.{Parts}
use Rattle.columnsheet.proofs.JoinFacts.{joined_lawful, joined_states}

-- ── Lawful partitions as a test ──

pub lawful_from_test : (d : Classes) → lawful_test d ≡ true → Lawful d
lawful_from_test d e =
    let p = and_parts (each_below (states d) (λ t. ltb (class d t) d.count)) _ e in
    record {
      below = λ t h. ltb-true (class d t) d.count (each_below_at (states d) (λ t. ltb (class d t) d.count) t p.0 h);
      occurs = λ c h.
          let o = some_from_any (states d) (λ t. eqb (class d t) c) (each_below_at d.count (λ c. any (states d) (λ t. eqb (class d t) c)) c p.1 h) in
          (o.0, o.1, eqb-true (class d o.0) c o.2);
    }

pub test_from_lawful : (d : Classes) → Lawful d → lawful_test d ≡ true
test_from_lawful d l =
    and_from _ _ (each_below_from (states d) (λ t. ltb (class d t) d.count) (λ t h. lt-ltb (class d t) d.count (l.below t h)))
    (each_below_from d.count (λ c. any (states d) (λ t. eqb (class d t) c)) (λ c h. let o = l.occurs c h in any_from_some (states d) (λ t. eqb (class d t) c) o.0 o.1 (eq-eqb (class d o.0) c o.2)))

pub all_from_lawful : (m : ℕ) (d : ℕ → Classes) → ((k : ℕ) → k < m → Lawful (d k)) → all_lawful m d ≡ true
all_from_lawful m d l = each_below_from m (λ k. lawful_test (d k)) (λ k h. test_from_lawful (d k) (l k h))

-- ── The tuples of some clusters ──

module _ (x : Tuples) where
  pub own_grid : Grid (product (sizes_of x)) (count_of x) (width (sizes_of x) (clusters_of x)) (tuple (sizes_of x) (clusters_of x)) (part (sizes_of x) (clusters_of x))
  own_grid = grid (sizes_of x) (clusters_of x) (count_of x) (own_shape x.clusters)

  pub own_some : 0 < product (sizes_of x)
  own_some = product_positive (sizes_of x) (wide_positive (sizes_of x) (own_shape x.clusters).wide)

  pub own_most : product (sizes_of x) ≤ 4096
  own_most = (own_shape x.clusters).most

  pub own_clusters : count_of x ≤ 12
  own_clusters = omega (arith, (own_shape x.clusters).fewer, (own_shape x.clusters).few)

  -- the tuples of the cluster k end within the table
  pub own_end : (k : ℕ) → k < count_of x → tuples_before (sizes_of x) (clusters_of x) (k + 1) ≤ 1024
  own_end k h = omega (arith, before_rises (sizes_of x) (clusters_of x) (k + 1) (count_of x) (omega arith), x.most)

  pub own_width : (k : ℕ) → tuples_before (sizes_of x) (clusters_of x) (k + 1) - tuples_before (sizes_of x) (clusters_of x) k ≡ width (sizes_of x) (clusters_of x) k
  own_width k = omega (arith, before_more (sizes_of x) (clusters_of x) k)

  pub own_few : (k : ℕ) → k < count_of x → width (sizes_of x) (clusters_of x) k ≤ 1024
  own_few k h = omega (arith, own_width k, own_end k h)

-- ── Their classes ──

module _ (p : Parts) where
  abbrev x : Tuples
  x = p.tuples

  pub own_sized : (k : ℕ) → k < count_of x → states (parts_of p k) ≡ width (sizes_of x) (clusters_of x) k
  own_sized k h = length-between p.classes (tuples_before (sizes_of x) (clusters_of x) k) (tuples_before (sizes_of x) (clusters_of x) (k + 1)) (omega (arith, own_end x k h, p.long)) ∙ own_width x k

  -- the class of a tuple stands at its place
  pub own_class : (k t : ℕ) → t < width (sizes_of x) (clusters_of x) k → class (parts_of p k) t ≡ get_or p.classes (tuples_before (sizes_of x) (clusters_of x) k + t) 0
  own_class k t h =
      get_or-between p.classes (tuples_before (sizes_of x) (clusters_of x) k) (tuples_before (sizes_of x) (clusters_of x) (k + 1)) t 0
      (omega (arith, h, before_more (sizes_of x) (clusters_of x) k))

  pub own_lawful : (k : ℕ) → k < count_of x → Lawful (parts_of p k)
  own_lawful k h = lawful_from_test (parts_of p k) (each_below_at (count_of x) (λ k. lawful_test (parts_of p k)) k p.lawful h)

  pub own_joined : Lawful (joined (product (sizes_of x)) (count_of x) (tuple (sizes_of x) (clusters_of x)) (parts_of p))
  own_joined = joined_lawful (product (sizes_of x)) (count_of x) (width (sizes_of x) (clusters_of x)) (tuple (sizes_of x) (clusters_of x)) (part (sizes_of x) (clusters_of x)) (own_grid x) (parts_of p) own_lawful own_sized (own_some x)

  pub own_states : states (joined (product (sizes_of x)) (count_of x) (tuple (sizes_of x) (clusters_of x)) (parts_of p)) ≡ product (sizes_of x)
  own_states = joined_states (product (sizes_of x)) (count_of x) (width (sizes_of x) (clusters_of x)) (tuple (sizes_of x) (clusters_of x)) (part (sizes_of x) (clusters_of x)) (own_grid x) (parts_of p) own_lawful own_sized

  pub own_held : states (joined (product (sizes_of x)) (count_of x) (tuple (sizes_of x) (clusters_of x)) (parts_of p)) ≤ 4096
  own_held = omega (arith, own_states, own_most x)

  pub own_total : class_count p ≤ 4096
  own_total = omega (arith, count_most (joined (product (sizes_of x)) (count_of x) (tuple (sizes_of x) (clusters_of x)) (parts_of p)) own_joined, own_held)

  -- class numbers of tuples stay small
  pub own_small : (k : ℕ) → k < count_of x → (t : ℕ) → t < width (sizes_of x) (clusters_of x) k → class (parts_of p k) t < 1024
  own_small k h t lt =
      let size = own_sized k h in
      omega (arith, size, (own_lawful k h).below t (omega (arith, size)), count_most (parts_of p k) (own_lawful k h), own_few x k h)

-- ── At first all tuples of a cluster are in one class ──

module _ (x : Tuples) (k : ℕ) (hk : k < count_of x) where
  abbrev one : Classes
  one = held (sizes_of x) (clusters_of x) (replicate 1024 0) (replicate 12 1) k

  pub one_class : (t : ℕ) → t < width (sizes_of x) (clusters_of x) k → class one t ≡ 0
  one_class t h =
      let from = tuples_before (sizes_of x) (clusters_of x) k in
      get_or-between (replicate 1024 0) from (tuples_before (sizes_of x) (clusters_of x) (k + 1)) t 0 (omega (arith, h, before_more (sizes_of x) (clusters_of x) k))
      ∙ get_or-replicate {A = ℕ} 1024 (from + t) 0 0 (omega (arith, before_more (sizes_of x) (clusters_of x) k, own_end x k hk))

  pub one_lawful : Lawful one
  one_lawful =
      let size : states one ≡ width (sizes_of x) (clusters_of x) k = length-between (replicate 1024 0) (tuples_before (sizes_of x) (clusters_of x) k) (tuples_before (sizes_of x) (clusters_of x) (k + 1)) (omega (arith, own_end x k hk)) ∙ own_width x k in
      let count : one.count ≡ 1 = get_or-replicate {A = ℕ} 12 k 1 0 (omega (arith, own_clusters x)) in
      let some : 0 < width (sizes_of x) (clusters_of x) k = omega (arith, (own_grid x).below k 0 hk (own_some x)) in
      record {
        below = λ t h. omega (arith, count, one_class t (omega (arith, size)));
        occurs = λ c h. (0, omega (arith, size), one_class 0 some ∙ (let none : 0 ≡ c = omega (arith, count) in none));
      }
