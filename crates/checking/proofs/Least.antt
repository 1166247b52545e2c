-- The lowest number that passes a test.
use Rattle.std.proofs.Common.{◌≡◌, ℕ, zero, suc, ◌<◌, Bool, true, false, ◌⊎◌, ap, ◌∙◌, inl, inr, arith}
use Rattle.std.proofs.lemmas.Bool.{cases_lt, cases_Bool, both_ways}
use Rattle.trace.specs.Sets.{Lowest}

-- the lowest number that passes, of those up to one that does
pub lowest_below : (p : ℕ → Bool) (n : ℕ) → ((m : ℕ) → m < n → p m ≡ false) ⊎ ((m : ℕ) × Lowest p m × (m < n))
lowest_below p zero = inl (λ m h. absurd (omega arith))
lowest_below p (suc n) =
    elim (lowest_below p n) [
      | inr found ↦ inr (found.0, found.1, omega (arith, found.2))
      | inl none ↦ elim (cases_Bool (p n)) [
        | inl passes ↦ inr (n, record { passes = passes; least = λ y e. elim (cases_lt y n) [ inl l ↦ absurd (both_ways (p y) (none y l) e) | inr l ↦ l ] }, omega arith)
        | inr fails ↦ inl (λ m h. elim (cases_lt m n) [ inl l ↦ none m l | inr l ↦ let same : m ≡ n = omega arith in ap p same ∙ fails ])
      ]
    ]

pub lowest : (p : ℕ → Bool) (n : ℕ) → p n ≡ true → (m : ℕ) × Lowest p m
lowest p n e = elim (lowest_below p (suc n)) [ inl none ↦ absurd (both_ways (p n) (none n (omega arith)) e) | inr found ↦ (found.0, found.1) ]
