-- Pigeonholes: how many numbers fit below another.
use Rattle.std.proofs.Common.{◌≡◌, ℕ, zero, suc, ◌<◌, ◌≤◌, cond, eqb, ◌≢◌, ◌⊎◌, sym, refl, ap, ◌∙◌, inl, inr, arith}
use Rattle.std.proofs.lemmas.Bool.{cases_eq, cases_lt, cond-true, cond-false, eq-eqb, ne_eqb}

-- g takes each number below k to one below n, and no two to the same
pub record Into (k n : ℕ) (g : ℕ → ℕ) : Type 0 where
  pub below : (i : ℕ) → i < k → g i < n
  pub apart : (i j : ℕ) → i < k → j < k → g i ≡ g j → i ≡ j

-- v in place of n
swap : ℕ → ℕ → ℕ → ℕ
swap n v x = cond (eqb x n) v x

swap_tells : (n v x : ℕ) → ((x ≡ n) × (swap n v x ≡ v)) ⊎ ((x ≢ n) × (swap n v x ≡ x))
unfolding swap
swap_tells n v x =
    elim (cases_eq x n) [ inl e ↦ inl (e, cond-true (eqb x n) v x (eq-eqb x n e)) | inr e ↦ inr (e, cond-false (eqb x n) v x (ne_eqb x n e)) ]

less : (k n : ℕ) (g : ℕ → ℕ) → Into (suc k) (suc n) g → Into k n (λ i. swap n (g k) (g i))
less k n g into = record {
  below = λ i h.
      let last : g k < suc n = into.below k (omega arith) in
      let here : g i < suc n = into.below i (omega arith) in
      let other : g i ≢ g k = λ e. let z : i ≡ k = into.apart i k (omega arith) (omega arith) e in omega arith in
      elim (swap_tells n (g k) (g i)) [ inl t ↦ omega arith | inr t ↦ omega arith ];
  apart = λ i j h l e.
      let same : g i ≡ g j → i ≡ j = into.apart i j (omega arith) (omega arith) in
      let left : g i ≢ g k = λ e. let z : i ≡ k = into.apart i k (omega arith) (omega arith) e in omega arith in
      let right : g j ≢ g k = λ e. let z : j ≡ k = into.apart j k (omega arith) (omega arith) e in omega arith in
      elim (swap_tells n (g k) (g i)) [
        | inl t ↦ elim (swap_tells n (g k) (g j)) [ inl u ↦ same (omega arith) | inr u ↦ omega arith ]
        | inr t ↦ elim (swap_tells n (g k) (g j)) [ inl u ↦ omega arith | inr u ↦ same (omega arith) ]
      ];
}

pub pigeons : (k n : ℕ) (g : ℕ → ℕ) → Into k n g → k ≤ n
pigeons zero n g into = omega arith
pigeons (suc k) zero g into = omega (arith, into.below 0 (omega arith))
pigeons (suc k) (suc n) g into = omega (arith, pigeons k n (λ i. swap n (g k) (g i)) (less k n g into))

-- f takes some number below n to each number below k
abbrev pub Onto : ℕ → ℕ → (ℕ → ℕ) → Type 0
Onto n k f = (i : ℕ) → i < k → (s : ℕ) × (s < n) × (f s ≡ i)

module _ (n k : ℕ) (f : ℕ → ℕ) (onto : Onto n k f) where
  pick : ℕ → (i : ℕ) → (i < k) ⊎ (k ≤ i) → ℕ
  pick v i (inl h) = (onto i h).0
  pick v i (inr h) = v

  -- a number of which f gives i, for i below k, and v from there on
  pub back : ℕ → ℕ → ℕ
  back v i = pick v i (cases_lt i k)

  Tells : ℕ → ℕ → ℕ → Type 0
  Tells v i x = ((i < k) × (x < n) × (f x ≡ i)) ⊎ ((k ≤ i) × (x ≡ v))

  pick_tells : (v i : ℕ) (d : (i < k) ⊎ (k ≤ i)) → Tells v i (pick v i d)
  unfolding pick Tells
  pick_tells v i (inl h) = inl (h, (onto i h).1, (onto i h).2)
  pick_tells v i (inr h) = inr (h, refl)

  back_tells : (v i : ℕ) → ((i < k) × (back v i < n) × (f (back v i) ≡ i)) ⊎ ((k ≤ i) × (back v i ≡ v))
  unfolding back Tells
  back_tells v i = pick_tells v i (cases_lt i k)

  pub back_in : (v i : ℕ) → i < k → (back v i < n) × (f (back v i) ≡ i)
  back_in v i h = elim (back_tells v i) [ inl t ↦ (t.1, t.2) | inr t ↦ omega arith ]

  pub onto_most : k ≤ n
  onto_most = pigeons k n (back 0) (record {
    below = λ i h. (back_in 0 i h).0;
    apart = λ i j h l e. sym (back_in 0 i h).1 ∙ ap f e ∙ (back_in 0 j l).1;
  })

  -- one number besides those that `back` gives
  one_more : (v : ℕ) → v < n → ((i : ℕ) → i < k → back v i ≢ v) → k < n
  one_more v h new =
      pigeons (suc k) n (back v) (record {
        below = λ i l. elim (back_tells v i) [ inl t ↦ t.1 | inr t ↦ omega arith ];
        apart = λ i j l m e.
            elim (back_tells v i) [
              | inl t ↦ elim (back_tells v j) [ inl u ↦ sym t.2 ∙ ap f e ∙ u.2 | inr u ↦ absurd (new i t.0 (e ∙ u.1)) ]
              | inr t ↦ elim (back_tells v j) [ inl u ↦ absurd (new j u.0 (sym e ∙ t.1)) | inr u ↦ omega arith ]
            ];
      })

  pick_same : (v w i : ℕ) → i < k → (d : (i < k) ⊎ (k ≤ i)) → pick v i d ≡ pick w i d
  unfolding pick
  pick_same v w i below (inl h) = refl
  pick_same v w i below (inr h) = omega arith

  back_same : (v w i : ℕ) → i < k → back v i ≡ back w i
  unfolding back
  back_same v w i below = pick_same v w i below (cases_lt i k)

  besides : (v i : ℕ) → v < n → f v ≡ i → back v i ≢ v → k < n
  besides v i h e other =
      one_more v h (λ j l same. let z : j ≡ i = sym (back_in v j l).1 ∙ ap f same ∙ e in other (ap (back v) (sym z) ∙ same))

  -- two numbers of which f gives the same leave one fewer
  pub onto_fewer : (s t : ℕ) → s < n → t < n → s ≢ t → f s ≡ f t → f s < k → k < n
  onto_fewer s t hs ht ne e below =
      elim (cases_eq (back s (f s)) s) [
        | inl same ↦ besides t (f s) ht (sym e) (λ z. ne (sym same ∙ back_same s t (f s) below ∙ z))
        | inr other ↦ besides s (f s) hs refl other
      ]
