-- Tuples that are alike, by the states in which the rest of a cluster is 0; and that alike tuples keep dead states apart from others.
use Rattle.std.proofs.Common.{◌≡◌, ℕ, zero, suc, ◌+◌, ◌-◌, ◌<◌, ◌≤◌, Bool, eqb, ◌≢◌, ◌↔◌, List, get_or, sym, refl, ap, ◌∙◌, subst, inl, inr, arith}
use Rattle.std.proofs.lemmas.Bool.{cases_lt, cases_eq}
use Rattle.tuples.proofs.Grids.{Grid}
use Rattle.columnsheet.specs.ColumnSplits.{Alike}

-- the state v is dead
abbrev pub dead : List ℕ → ℕ → Bool
dead marks v = eqb (get_or marks v 0) 1

module _ (n m : ℕ) (width : ℕ → ℕ) (tuple part : ℕ → ℕ → ℕ) (grid : Grid n m width tuple part) (marks : List ℕ) where
  -- x and y give the same dead states with each state that has nothing in the cluster k
  abbrev pub SameDead : ℕ → ℕ → ℕ → Type 0
  SameDead k x y = (r : ℕ) → r < n → part k r ≡ 0 → dead marks (r + x) ≡ dead marks (r + y)

  part_zero : (k : ℕ) → 0 < n → part k 0 ≡ 0
  part_zero k some = omega (arith, grid.part_most k 0 some)

  -- what is left of a state without the cluster k
  module _ (k : ℕ) (hk : k < m) (some : 0 < n) where
    rest_is : (v : ℕ) → v - part k v + part k 0 ≡ v - part k v
    rest_is v = omega (arith, part_zero k some)

    rest_below : (v : ℕ) → v < n → v - part k v < n
    rest_below v hv = omega arith

    rest_tuple : (v : ℕ) → v < n → tuple k (v - part k v) ≡ tuple k 0
    rest_tuple v hv = ap (tuple k) (sym (rest_is v)) ∙ grid.mixed_in k v 0 hk hv some

    rest_other : (v j : ℕ) → v < n → j < m → j ≢ k → tuple j (v - part k v) ≡ tuple j v
    rest_other v j hv hj ne = ap (tuple j) (sym (rest_is v)) ∙ grid.mixed_out k j v 0 hk hj ne hv some

    rest_part : (v : ℕ) → v < n → part k (v - part k v) ≡ 0
    rest_part v hv = grid.part_same k (v - part k v) 0 hk (rest_below v hv) some (rest_tuple v hv) ∙ part_zero k some

    rests_same : (v w : ℕ) → v < n → w < n → ((j : ℕ) → j < m → j ≢ k → tuple j v ≡ tuple j w) → v - part k v ≡ w - part k w
    rests_same v w hv hw others =
        grid.one (v - part k v) (w - part k w) (rest_below v hv) (rest_below w hw)
        (λ j hj.
        elim (cases_eq j k) [
          | inl e ↦ subst (λ i. tuple i (v - part k v) ≡ tuple i (w - part k w)) (sym e) (rest_tuple v hv ∙ sym (rest_tuple w hw))
          | inr ne ↦ rest_other v j hv hj ne ∙ others j hj ne ∙ sym (rest_other w j hw hj ne)
        ])

  pub alike_rests : (k s t : ℕ) → k < m → s < n → t < n → Alike n m tuple marks k s t ↔ SameDead k (part k s) (part k t)
  alike_rests k s t hk hs ht =
      let some : 0 < n = omega arith in (
        (λ alike r hr none.
            let into : (u : ℕ) → r - part k r + part k u ≡ r + part k u = λ u. omega arith in
            alike (r + part k s) (r + part k t) (
            record {
              first_state = subst (λ v. v < n) (into s) (grid.mixed_below k r s hk hr hs);
              second_state = subst (λ v. v < n) (into t) (grid.mixed_below k r t hk hr ht);
              first = ap (tuple k) (sym (into s)) ∙ grid.mixed_in k r s hk hr hs;
              second = ap (tuple k) (sym (into t)) ∙ grid.mixed_in k r t hk hr ht;
              others = λ j hj ne. ap (tuple j) (sym (into s)) ∙ grid.mixed_out k j r s hk hj ne hr hs ∙ sym (grid.mixed_out k j r t hk hj ne hr ht) ∙ ap (tuple j) (into t);
            }
            )),
        (λ same v w x.
            let hv = x.first_state in
            let hw = x.second_state in
            let r = v - part k v in
            let equal : r ≡ w - part k w = rests_same k hk some v w hv hw x.others in
            let v_is : r + part k s ≡ v = omega (arith, grid.part_same k v s hk hv hs x.first, grid.part_most k v hv) in
            let w_is : r + part k t ≡ w = omega (arith, equal, grid.part_same k w t hk hw ht x.second, grid.part_most k w hw) in
            ap (dead marks) (sym v_is) ∙ same r (rest_below k hk some v hv) (rest_part k hk some v hv) ∙ ap (dead marks) w_is),
      )

  -- the state with the tuples of t in the clusters below i, and of s in the others
  pub record Between (s t i : ℕ) : Type 0 where
    pub state : ℕ
    pub below : state < n
    pub front : (k : ℕ) → k < i → tuple k state ≡ tuple k t
    pub back : (k : ℕ) → i ≤ k → k < m → tuple k state ≡ tuple k s
    pub dead_as : dead marks state ≡ dead marks s

  between : (s t : ℕ) → s < n → t < n → ((k : ℕ) → k < m → Alike n m tuple marks k s t) → (i : ℕ) → i ≤ m → Between s t i
  between s t hs ht alike zero le = record { state = s; below = hs; front = λ k h. absurd (omega arith); back = λ k h l. refl; dead_as = refl }
  between s t hs ht alike (suc i) le =
      let b = between s t hs ht alike i (omega arith) in
      let v = b.state in
      let w = v - part i v + part i t in
      let hi : i < m = omega arith in
      let out : (j : ℕ) → j < m → j ≢ i → tuple j w ≡ tuple j v = λ j hj ne. grid.mixed_out i j v t hi hj ne b.below ht in
      let turned : tuple i w ≡ tuple i t = grid.mixed_in i v t hi b.below ht in
      record {
        state = w;
        below = grid.mixed_below i v t hi b.below ht;
        front = λ k h.
            elim (cases_lt k i) [
              | inl lt ↦ out k (omega arith) (omega arith) ∙ b.front k lt
              | inr ge ↦ let same : k ≡ i = omega arith in subst (λ j. tuple j w ≡ tuple j t) (sym same) turned
            ];
        back = λ k h l. out k l (omega arith) ∙ b.back k (omega arith) l;
        dead_as = sym (alike i hi v w (
            record {
              first_state = b.below;
              second_state = grid.mixed_below i v t hi b.below ht;
              first = b.back i (omega arith) hi;
              second = turned;
              others = λ j hj ne. sym (out j hj ne);
            }
            )) ∙ b.dead_as;
      }

  -- states whose tuples are alike in every cluster are both dead, or neither is
  pub alike_dead : (s t : ℕ) → s < n → t < n → ((k : ℕ) → k < m → Alike n m tuple marks k s t) → dead marks s ≡ dead marks t
  alike_dead s t hs ht alike =
      let b = between s t hs ht alike m (omega arith) in
      sym b.dead_as ∙ ap (dead marks) (grid.one b.state t b.below ht b.front)
