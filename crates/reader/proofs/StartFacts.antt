-- The test of start values: each is above the one before, and all are below the size.
use Rattle.std.proofs.Common.{◌≡◌, ℕ, zero, suc, ◌+◌, ◌<◌, ◌≤◌, true, false, ◌&&◌, ltb, List, [], ◌∷◌, length, get_or, sym, refl, ap, ◌∙◌, arith}
use Rattle.std.proofs.lemmas.Bool.{and_left, and_right, lt-leb, le-leb, ltb-true, ltb-false}
use Rattle.std.specs.List.{AllAdjacentBelow, list_all}
use Rattle.reader.specs.VariableLines.{rising}

next : (k : ℕ) → suc k + 1 ≡ suc (k + 1)
next k = omega arith

pub rises : (size : ℕ) (xs : List ℕ) → AllAdjacentBelow (λ x y. true ≡ ltb x y) xs (length xs) → (low : ℕ) → ((d : ℕ) → 0 < length xs → low ≤ get_or xs 0 d) → list_all (λ v. ltb v size) xs ≡ rising low size xs
rises size [] h low above = refl
rises size (v ∷ vs) h low above =
    ap (λ t. ltb v size && t) (rises size vs (λ k d lt. h (suc k) d (omega (arith, lt)) ∙ ap (λ j. ltb (get_or vs k d) (get_or (v ∷ vs) j d)) (next k)) (v + 1) (λ d lt. omega (arith, ltb-true _ _ (sym (h 0 d (omega (arith, lt))))))) ∙ sym (ap (λ t. t && (ltb v size && rising (v + 1) size vs)) (le-leb low v (above v (omega arith))))

pub falls : (size : ℕ) (xs : List ℕ) (k low : ℕ) → k + 1 < length xs → ((d : ℕ) → false ≡ ltb (get_or xs k d) (get_or xs (k + 1) d)) → rising low size xs ≡ false
falls size [] k low lt h = absurd (omega (arith, lt))
falls size (v ∷ []) k low lt h = absurd (omega (arith, lt))
falls size (v ∷ w ∷ vs) zero low lt h = and_right _ _ (and_right _ _ (and_left _ _ (lt-leb (v + 1) w (omega (arith, ltb-false v w (sym (h 0)))))))
falls size (v ∷ w ∷ vs) (suc k) low lt h = and_right _ _ (and_right _ _ (falls size (w ∷ vs) k (v + 1) (omega (arith, lt)) (λ d. h d ∙ ap (λ j. ltb (get_or (w ∷ vs) k d) (get_or (v ∷ w ∷ vs) j d)) (next k))))
