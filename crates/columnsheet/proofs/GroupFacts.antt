-- Partitions of a cluster's tuples, refined test by test.
use Rattle.std.proofs.Common.{ℕ, ◌+◌, ◌<◌, ◌≤◌, ◌↔◌, arith, below_more}
use Rattle.sheets.specs.Classes.{Classes, class}
use Rattle.sheets.proofs.Counts.{count_most}
use Rattle.columnsheet.specs.Groups.{Grouped}

module _ (n w : ℕ) (tuple : ℕ → ℕ) where
  -- the same partition by another test of the same truth
  pub grouped_as : (E F : ℕ → ℕ → Type 0) (d : Classes) → ((s t : ℕ) → s < n → t < n → E s t ↔ F s t) → Grouped n w tuple E d → Grouped n w tuple F d
  grouped_as E F d same g = record {
    lawful = g.lawful;
    tuples_are = g.tuples_are;
    numbered = g.numbered;
    together = λ s t hs ht.
        let old = g.together s t hs ht in
        let new = same s t hs ht in
        ((λ e. new.0 (old.0 e)), (λ f. old.1 (new.1 f)));
  }

  -- class numbers stay small
  pub grouped_small : (E : ℕ → ℕ → Type 0) (d : Classes) → w ≤ 1024 → Grouped n w tuple E d → (t : ℕ) → t < w → class d t < 1024
  grouped_small E d few g t lt = omega (arith, g.tuples_are, g.lawful.below t (omega (arith, g.tuples_are)), count_most d g.lawful)

-- a fact of each number below i + 1, apart
pub below_last : (P : ℕ → Type 0) (i : ℕ) → ((k : ℕ) → k < i + 1 → P k) ↔ (((k : ℕ) → k < i → P k) × P i)
below_last P i = ((λ h. ((λ k l. h k (omega arith)), h i (omega arith))), (λ h. below_more P i h.0 h.1))
