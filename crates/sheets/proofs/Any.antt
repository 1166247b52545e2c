-- A bounded test, and what it tells.
use Rattle.std.proofs.Common.{◌≡◌, ℕ, zero, suc, ◌+◌, ◌<◌, ◌≤◌, Bool, true, false, ◌||◌, Decides, refl, ap, ◌∙◌, inl, inr, add-one, arith}
use Rattle.std.proofs.lemmas.Bool.{cases_lt, cases_Bool, both_ways}
use Rattle.std.proofs.lemmas.Bool.Decides.{Decides-below_or}
use Rattle.sheets.specs.Structure.{any}

pub any_decides : (n : ℕ) (p : ℕ → Bool) → Decides (any n p) ((k : ℕ) × (k < n) × (p k ≡ true))
unfolding any
any_decides n p = Decides-below_or p (λ k. p k ≡ true) (λ m. any m p) (λ k. (λ e. e, λ e. e)) refl (λ _. refl) n

pub some_from_any : (n : ℕ) (p : ℕ → Bool) → any n p ≡ true → (k : ℕ) × (k < n) × (p k ≡ true)
some_from_any n p = (any_decides n p).0

pub any_from_some : (n : ℕ) (p : ℕ → Bool) (k : ℕ) → k < n → p k ≡ true → any n p ≡ true
any_from_some n p k below passes = (any_decides n p).1 (k, below, passes)

pub any_none : (n : ℕ) (p : ℕ → Bool) → ((k : ℕ) → k < n → p k ≡ false) → any n p ≡ false
any_none n p none =
    elim (cases_Bool (any n p)) [ inl e ↦ let k = some_from_any n p e in absurd (both_ways (p k.0) (none k.0 k.1) k.2) | inr e ↦ e ]

pub any_more : (n : ℕ) (p : ℕ → Bool) → any (n + 1) p ≡ (p n || any n p)
unfolding any
any_more n p = ap (λ m. any m p) (add-one n)

pub any_extend : (p : ℕ → Bool) (i j : ℕ) → i ≤ j → ((k : ℕ) → i ≤ k → k < j → p k ≡ false) → any j p ≡ any i p
unfolding any
any_extend p i zero h none = let same : 0 ≡ i = omega arith in ap (λ m. any m p) same
any_extend p i (suc j) h none =
    elim (cases_lt j i) [
      | inl l ↦ let same : suc j ≡ i = omega arith in ap (λ m. any m p) same
      | inr l ↦ ap (λ b. b || any j p) (none j l (omega arith)) ∙ any_extend p i j l (λ k a b. none k a (omega arith))
    ]
