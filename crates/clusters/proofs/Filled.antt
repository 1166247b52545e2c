-- An array that a closure fills, where a call leaves the closure as it was.
use Rattle.std.proofs.Common.{◌≡◌, ℕ, zero, suc, ◌+◌, ◌<◌, ◌≤◌, List, get_or, sym, ap, ◌∙◌, subst, inl, inr, arith}
use Rattle.std.proofs.lemmas.Bool.{cases_eq}
use Rattle.std.specs.Array.{IsFromFnResultFrom}
use Rattle.std.specs.Fn.{Called}
use denote.Param.Members.{Mut}

module _ {F : Type 0} (g : Mut F (ℕ × Unit {0}) ℕ) (f : F) (h : ℕ → ℕ) (told : (v y : ℕ) (q : F) → Called g f (v, tt) y q → (q ≡ f) × (y ≡ h v)) (ys : List ℕ) where
  pub filled : (n i : ℕ) → IsFromFnResultFrom g f ys i n → (v : ℕ) → i ≤ v → v < i + n → get_or ys v 0 ≡ h v
  filled zero i all v le lt = absurd (omega arith)
  filled (suc n) i all v le lt =
      let t = told i all.1 all.0 all.3 in
      elim (cases_eq i v) [
        | inl e ↦ ap (λ w. get_or ys w 0) (sym e) ∙ all.2.1 0 ∙ t.1 ∙ ap h e
        | inr other ↦ filled n (i + 1) (subst (λ p. IsFromFnResultFrom g p ys (i + 1) n) t.0 all.4) v (omega arith) (omega arith)
      ]
