-- Tests of each number below another.
use Rattle.std.proofs.Common.{◌≡◌, ℕ, zero, suc, ◌<◌, Bool, true, false, ◌&&◌, refl, arith}
use Rattle.std.proofs.lemmas.Bool.{and_parts, and_from, and_left, and_right}
use Rattle.columns.specs.Columns.{each_below}

pub each_below_from : (n : ℕ) (p : ℕ → Bool) → ((k : ℕ) → k < n → p k ≡ true) → each_below n p ≡ true
each_below_from zero p h = refl
each_below_from (suc n) p h = and_from _ _ (h 0 (omega arith)) (each_below_from n (λ k. p (suc k)) (λ k lt. h (suc k) (omega arith)))

pub each_below_at : (n : ℕ) (p : ℕ → Bool) (k : ℕ) → each_below n p ≡ true → k < n → p k ≡ true
each_below_at zero p k h lt = absurd (omega arith)
each_below_at (suc n) p zero h lt = (and_parts _ _ h).0
each_below_at (suc n) p (suc k) h lt = each_below_at n (λ j. p (suc j)) k (and_parts _ _ h).1 (omega arith)

pub each_below_false : (n : ℕ) (p : ℕ → Bool) (k : ℕ) → k < n → p k ≡ false → each_below n p ≡ false
each_below_false zero p k lt h = absurd (omega arith)
each_below_false (suc n) p zero lt h = and_left _ _ h
each_below_false (suc n) p (suc k) lt h = and_right _ _ (each_below_false n (λ j. p (suc j)) k (omega arith) h)

pub each_below_same : (n : ℕ) (p q : ℕ → Bool) → ((k : ℕ) → k < n → p k ≡ q k) → each_below n p ≡ each_below n q
each_below_same zero p q h = refl
each_below_same (suc n) p q h =
    let first = h 0 (omega arith) in
    let rest = each_below_same n (λ k. p (suc k)) (λ k. q (suc k)) (λ k lt. h (suc k) (omega arith)) in
    λ i. first i && rest i
