-- The table of the lowest states, written from the highest state to the lowest.
use Rattle.std.proofs.Common.{◌≡◌, ℕ, ◌+◌, ◌<◌, ◌≤◌, true, eqb, ◌≢◌, List, length, get_or, set, sym, ap, ◌∙◌, inl, inr, arith, length-set}
use Rattle.std.proofs.lemmas.List.{get_or-set_same, get_or-set_other}
use Rattle.std.proofs.lemmas.Bool.{cases_eq, cases_order, eq-eqb, eqb-true}
use Rattle.columns.specs.Columns.{product, each_below}
use Rattle.columns.proofs.EachBelow.{each_below_from, each_below_at}
use Rattle.clusters.specs.Shapes.{Shape}
use Rattle.tuples.specs.Tuples.{tuple, width, tuples_before, part}
use Rattle.tuples.specs.Tables.{place, lowest_kept, Written}
use Rattle.tuples.proofs.StateGrid.{grid}
use Rattle.tuples.proofs.Widths.{before_ends}

-- ── One state at the places of its tuples ──

pub written_more : (at : ℕ → ℕ) (i s : ℕ) (before now : List ℕ) → at i < length now → Written at i s before now → Written at (i + 1) s before (set now (at i) s)
written_more at i s before now room h =
    record {
      long = length-set now (at i) s ∙ h.long;
      put = λ k lt.
          elim (cases_eq (at k) (at i)) [
            | inl e ↦ ap (λ p. get_or (set now (at i) s) p 0) e ∙ get_or-set_same now (at i) s 0 room
            | inr other ↦ let apart : k ≢ i = λ e. other (ap at e) in get_or-set_other now (at i) (at k) s 0 other ∙ h.put k (omega arith)
          ];
      kept = λ p away. get_or-set_other now (at i) p s 0 (away i (omega arith)) ∙ h.kept p (λ k lt. away k (omega arith));
    }

-- ── All states ──

-- of the states from i on, the lowest with a tuple stands at the place of that tuple
pub record Lowering (ds cs : List ℕ) (m i : ℕ) (table : List ℕ) : Type 0 where
  pub long : length table ≡ 1024
  pub low : (k u : ℕ) → k < m → i ≤ u → u < product ds → get_or table (place ds cs u k) 0 ≤ u
  pub same : (k u : ℕ) → k < m → i ≤ u → u < product ds → tuple ds cs k (get_or table (place ds cs u k) 0) ≡ tuple ds cs k u

module _ (ds cs : List ℕ) (m : ℕ) (shape : Shape ds cs m) where
  below : (k s : ℕ) → k < m → s < product ds → tuple ds cs k s < width ds cs k
  below = (grid ds cs m shape).below

  -- tuples of two clusters never share a place
  place_one : (j k s u : ℕ) → j < m → k < m → s < product ds → u < product ds → place ds cs u k ≡ place ds cs s j → k ≡ j
  place_one j k s u in_j in-k a b e =
      let left = below k u in-k b in
      let right = below j s in_j a in
      elim (cases_order k j) [ inl same ↦ same | inr apart ↦ elim apart [ inl less ↦ absurd (omega (arith, before_ends ds cs k j less)) | inr more ↦ absurd (omega (arith, before_ends ds cs j k more)) ] ]

  place_tuple : (j k s u : ℕ) → j < m → k < m → s < product ds → u < product ds → place ds cs u k ≡ place ds cs s j → tuple ds cs k u ≡ tuple ds cs k s
  place_tuple j k s u in_j in-k a b e =
      let one = place_one j k s u in_j in-k a b e in
      omega (arith, ap (tuples_before ds cs) one, ap (λ c. tuple ds cs c s) one)

  module _ (s : ℕ) (table after : List ℕ) (state : s < product ds) (h : Lowering ds cs m (s + 1) table) (w : Written (place ds cs s) m s table after) where
    -- what stands at the place of another tuple is kept
    kept_at : (k u : ℕ) → k < m → u < product ds → tuple ds cs k u ≢ tuple ds cs k s → get_or after (place ds cs u k) 0 ≡ get_or table (place ds cs u k) 0
    kept_at k u lt under other = w.kept (place ds cs u k) (λ j in_j e. other (place_tuple j k s u in_j lt state under e))

    put_at : (k u : ℕ) → k < m → tuple ds cs k u ≡ tuple ds cs k s → get_or after (place ds cs u k) 0 ≡ s
    put_at k u lt e = ap (λ t. get_or after (tuples_before ds cs k + t) 0) e ∙ w.put k lt

    pub lowering_more : Lowering ds cs m s after
    lowering_more =
        record {
          long = w.long ∙ h.long;
          low = λ k u lt from under.
              elim (cases_eq (tuple ds cs k u) (tuple ds cs k s)) [
                | inl e ↦ omega (arith, put_at k u lt e)
                | inr other ↦ let apart : u ≢ s = λ e. other (ap (tuple ds cs k) e) in omega (arith, kept_at k u lt under other, h.low k u lt (omega arith) under)
              ];
          same = λ k u lt from under.
              elim (cases_eq (tuple ds cs k u) (tuple ds cs k s)) [
                | inl e ↦ ap (tuple ds cs k) (put_at k u lt e) ∙ sym e
                | inr other ↦ let apart : u ≢ s = λ e. other (ap (tuple ds cs k) e) in ap (tuple ds cs k) (kept_at k u lt under other) ∙ h.same k u lt (omega arith) under
              ];
        }

  -- what stands at a state's place is the state's part
  part_at : (table : List ℕ) → Lowering ds cs m 0 table → (k s : ℕ) → k < m → s < product ds → get_or table (place ds cs s k) 0 ≡ part ds cs k s
  part_at table h k s lt state =
      let g = grid ds cs m shape in
      let x = get_or table (place ds cs s k) 0 in
      let p = part ds cs k s in
      let low = h.low k s lt (omega arith) state in
      let most = g.part_most k s state in
      let again : get_or table (place ds cs p k) 0 ≡ x = ap (λ t. get_or table (tuples_before ds cs k + t) 0) (g.part_tuple k s lt state) in
      let up = h.low k p lt (omega arith) (omega arith) in
      let of_x : part ds cs k x ≡ p = g.part_same k x s lt (omega arith) state (h.same k s lt (omega arith) state) in
      omega (arith, again, up, of_x, g.part_most k x (omega arith))

  pub lowering_all : (table : List ℕ) → Lowering ds cs m 0 table → lowest_kept ds cs m table ≡ true
  lowering_all table h =
      each_below_from m (λ k. each_below (product ds) (λ s. eqb (get_or table (place ds cs s k) 0) (part ds cs k s))) (λ k lt. each_below_from (product ds) (λ s. eqb (get_or table (place ds cs s k) 0) (part ds cs k s)) (λ s state. eq-eqb _ _ (part_at table h k s lt state)))

pub lowest_at : (ds cs : List ℕ) (m : ℕ) (table : List ℕ) → lowest_kept ds cs m table ≡ true → (k s : ℕ) → k < m → s < product ds → get_or table (place ds cs s k) 0 ≡ part ds cs k s
lowest_at ds cs m table h k s lt state =
    eqb-true _ _ (each_below_at (product ds) (λ u. eqb (get_or table (place ds cs u k) 0) (part ds cs k u)) s (each_below_at m (λ j. each_below (product ds) (λ u. eqb (get_or table (place ds cs u j) 0) (part ds cs j u))) k h lt) state)
