-- What the finest partition tells.
use Rattle.std.proofs.Common.{◌≡◌, ℕ, ◌<◌, ◌≤◌, ltb, List, get_or, Some, None, ap, sym, ◌∙◌, arith}
use Rattle.std.proofs.lemmas.Bool.{cond-true, cond-false, lt-ltb, le-ltb}
use Rattle.std.proofs.lemmas.List.FromFn.{length-range_with_len, get_or-range_with_len}
use Rattle.sheets.specs.Classes.{Lawful, states, class, class_at}
use Rattle.sheets.specs.Splits.{Splittable}
use Rattle.cases.specs.FinestClasses.{finest}

module _ (n : ℕ) where
  pub finest_states : states (finest n) ≡ n
  finest_states = length-range_with_len 0 n

  pub finest_class : (s : ℕ) → s < n → class (finest n) s ≡ s
  finest_class s h = omega (arith, get_or-range_with_len 0 n s 0 h)

  pub finest_at : (s : ℕ) → s < n → class_at (finest n) s ≡ Some s
  finest_at s h = cond-true (ltb s (states (finest n))) (Some (class (finest n) s)) None (lt-ltb s (states (finest n)) (omega (arith, finest_states))) ∙ ap Some (finest_class s h)

  pub finest_past : (s : ℕ) → n ≤ s → class_at (finest n) s ≡ None
  finest_past s h = cond-false (ltb s (states (finest n))) (Some (class (finest n) s)) None (le-ltb s (states (finest n)) (omega (arith, finest_states)))

  pub finest_lawful : Lawful (finest n)
  finest_lawful = record {
    below = λ s h. let inside : s < n = omega (arith, finest_states) in omega (arith, finest_class s inside);
    occurs = λ k h. (k, omega (arith, finest_states), finest_class k h);
  }

  -- a dead state and a bad one would be the one state of their class
  pub finest_unsplit : (k : ℕ) (marks : List ℕ) → Splittable (finest n) k marks → ⊥
  finest_unsplit k marks may =
      let dead = may.dead in
      let bad = may.bad in
      let here : dead.0 ≡ k = sym (finest_class dead.0 (omega (arith, finest_states, dead.1))) ∙ may.inside dead.0 dead.1 (omega (arith, dead.2)) in
      let there : bad.0 ≡ k = sym (finest_class bad.0 (omega (arith, finest_states, bad.1))) ∙ may.inside bad.0 bad.1 (omega (arith, bad.2)) in
      omega (arith, dead.2, bad.2, ap (λ s. get_or marks s 0) (here ∙ sym there))
