-- The classes of states that the classes of their tuples make.
use Rattle.std.proofs.Common.{◌≡◌, ℕ, zero, suc, ◌+◌, ◌-◌, ◌<◌, ◌≤◌, true, ◌↔◌, List, [], ◌∷◌, map, length, get_or, sym, refl, ap, ◌∙◌, subst, inl, inr, arith}
use Rattle.std.specs.List.{range_with_len}
use Rattle.std.proofs.lemmas.List.FromFn.{length-map-range_with_len, get_or-map-range_with_len}
use Rattle.std.proofs.lemmas.List.{ext_get_or}
use Rattle.std.proofs.lemmas.Bool.{and_from, lt-ltb, cases_lt}
use Rattle.columns.specs.Columns.{number, values, fit}
use Rattle.columns.proofs.Digits.{Positive, number_below, values_number, number_values, values_fit, fit_at, length_values}
use Rattle.sheets.specs.Classes.{Classes, states, class, Lawful}
use Rattle.tuples.proofs.Grids.{Grid}
use Rattle.columnsheet.specs.Joins.{counts_of, cluster_classes, joined}

-- ── Lists over the clusters ──

fit_from : (ds vs : List ℕ) → length ds ≡ length vs → ((k : ℕ) → k < length ds → get_or vs k 0 < get_or ds k 0) → fit ds vs ≡ true
fit_from [] [] e h = refl
fit_from [] (v ∷ vs) e h = absurd (omega arith)
fit_from (d ∷ ds) [] e h = absurd (omega arith)
fit_from (d ∷ ds) (v ∷ vs) e h = and_from _ _ (lt-ltb v d (h 0 (omega arith))) (fit_from ds vs (omega arith) (λ k l. h (suc k) (omega arith)))

positive_from : (ds : List ℕ) → ((k : ℕ) → k < length ds → 0 < get_or ds k 0) → Positive ds
positive_from [] h = tt
positive_from (d ∷ ds) h = (h 0 (omega arith), positive_from ds (λ k l. h (suc k) (omega arith)))

module _ (m : ℕ) (f : ℕ → ℕ) where
  pub over_length : length (map f (range_with_len 0 m)) ≡ m
  over_length = length-map-range_with_len f 0 m

  pub over_at : (k : ℕ) → k < m → get_or (map f (range_with_len 0 m)) k 0 ≡ f k
  over_at k lt = get_or-map-range_with_len f 0 m k k 0 lt (omega arith)

pub over_same : (m : ℕ) (f g : ℕ → ℕ) → ((k : ℕ) → k < m → f k ≡ g k) → map f (range_with_len 0 m) ≡ map g (range_with_len 0 m)
over_same m f g h =
    ext_get_or 0 (map f (range_with_len 0 m)) (map g (range_with_len 0 m)) (over_length m f ∙ sym (over_length m g))
    (λ k l. let lt : k < m = omega (arith, over_length m f) in over_at m f k lt ∙ h k lt ∙ sym (over_at m g k lt))

-- ── The partition of the states ──

module _ (n m : ℕ) (width : ℕ → ℕ) (tuple part : ℕ → ℕ → ℕ) (grid : Grid n m width tuple part) (d : ℕ → Classes)
    (lawful : (k : ℕ) → k < m → Lawful (d k)) (sized : (k : ℕ) → k < m → states (d k) ≡ width k) where
  abbrev local : ℕ → ℕ → ℕ
  local s k = class (d k) (tuple k s)

  local_below : (s k : ℕ) → s < n → k < m → local s k < (d k).count
  local_below s k hs hk = (lawful k hk).below (tuple k s) (omega (arith, sized k hk, grid.below k s hk hs))

  pub classes_fit : (s : ℕ) → s < n → fit (counts_of m d) (cluster_classes m tuple d s) ≡ true
  classes_fit s hs =
      fit_from (counts_of m d) (cluster_classes m tuple d s) (over_length m (λ k. (d k).count) ∙ sym (over_length m (local s)))
      (λ k l. let lt : k < m = omega (arith, over_length m (λ k. (d k).count)) in omega (arith, over_at m (local s) k lt, over_at m (λ k. (d k).count) k lt, local_below s k hs lt))

  pub counts_positive : 0 < n → Positive (counts_of m d)
  counts_positive some =
      positive_from (counts_of m d) (λ k l. let lt : k < m = omega (arith, over_length m (λ k. (d k).count)) in omega (arith, over_at m (λ k. (d k).count) k lt, local_below 0 k some lt))

  pub joined_class : (s : ℕ) → s < n → class (joined n m tuple d) s ≡ number (counts_of m d) (cluster_classes m tuple d s)
  joined_class s hs = over_at n (λ s. number (counts_of m d) (cluster_classes m tuple d s)) s hs

  pub joined_states : states (joined n m tuple d) ≡ n
  joined_states = over_length n (λ s. number (counts_of m d) (cluster_classes m tuple d s))

  -- two states share a class exactly if they share it in every cluster
  pub joined_same : (s t : ℕ) → s < n → t < n → (class (joined n m tuple d) s ≡ class (joined n m tuple d) t) ↔ ((k : ℕ) → k < m → class (d k) (tuple k s) ≡ class (d k) (tuple k t))
  joined_same s t hs ht = (
    (λ e k hk.
        let lists : cluster_classes m tuple d s ≡ cluster_classes m tuple d t = sym (values_number (counts_of m d) _ (classes_fit s hs)) ∙ ap (values (counts_of m d)) (sym (joined_class s hs) ∙ e ∙ joined_class t ht) ∙ values_number (counts_of m d) _ (classes_fit t ht) in
        sym (over_at m (local s) k hk) ∙ ap (λ l. get_or l k 0) lists ∙ over_at m (local t) k hk),
    (λ h. joined_class s hs ∙ ap (number (counts_of m d)) (over_same m (local s) (local t) h) ∙ sym (joined_class t ht)),
  )

  -- a state that has a class wanted of each cluster below i
  abbrev Having : (ℕ → ℕ) → ℕ → Type 0
  Having want i = (s : ℕ) × (s < n) × ((k : ℕ) → k < i → class (d k) (tuple k s) ≡ want k)

  having : (want : ℕ → ℕ) → 0 < n → ((k : ℕ) → k < m → want k < (d k).count) → (i : ℕ) → i ≤ m → Having want i
  having want some below zero le = (0, some, λ k h. absurd (omega arith))
  having want some below (suc i) le =
      let before = having want some below i (omega arith) in
      let hi : i < m = omega arith in
      let s = before.0 in
      let hs = before.1 in
      let o = (lawful i hi).occurs (want i) (below i hi) in
      let met = grid.met i o.0 hi (omega (arith, o.1, sized i hi)) in
      let u = met.0 in
      let hu = met.1 in
      let there : class (d i) (tuple i u) ≡ want i = ap (class (d i)) met.2 ∙ o.2 in (
        s - part i s + part i u,
        grid.mixed_below i s u hi hs hu,
        λ k h.
            elim (cases_lt k i) [
              | inl lt ↦ ap (class (d k)) (grid.mixed_out i k s u hi (omega arith) (omega arith) hs hu) ∙ before.2 k lt
              | inr le ↦
                  let same : k ≡ i = omega arith in
                  subst (λ j. class (d j) (tuple j (s - part i s + part i u)) ≡ want j) (sym same) (ap (class (d i)) (grid.mixed_in i s u hi hs hu) ∙ there)
            ],
      )

  pub joined_lawful : 0 < n → Lawful (joined n m tuple d)
  joined_lawful some = record {
    below = λ s h. let lt : s < n = omega (arith, joined_states) in omega (arith, joined_class s lt, number_below (counts_of m d) (cluster_classes m tuple d s) (classes_fit s lt));
    occurs = λ c h.
        let vs = values (counts_of m d) c in
        let good : fit (counts_of m d) vs ≡ true = values_fit (counts_of m d) c (counts_positive some) h in
        let below : (k : ℕ) → k < m → get_or vs k 0 < (d k).count = λ k hk. omega (arith, fit_at (counts_of m d) vs k good (omega (arith, over_length m (λ k. (d k).count))), over_at m (λ k. (d k).count) k hk) in
        let found = having (λ k. get_or vs k 0) some below m (omega arith) in
        let s = found.0 in
        let hs = found.1 in
        let lists : cluster_classes m tuple d s ≡ vs = ext_get_or 0 (cluster_classes m tuple d s) vs (over_length m (local s) ∙ sym (length_values (counts_of m d) c ∙ over_length m (λ k. (d k).count))) (λ k l. let hk : k < m = omega (arith, over_length m (local s)) in over_at m (local s) k hk ∙ found.2 k hk) in
        (s, omega (arith, joined_states), joined_class s hs ∙ ap (number (counts_of m d)) lists ∙ number_values (counts_of m d) c (counts_positive some) h);
  }
