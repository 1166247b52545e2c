-- What accepted sizes give.
use Rattle.std.proofs.Common.{◌≡◌, ℕ, zero, suc, ◌*◌, ◌<◌, ◌≤◌, true, ◌&&◌, leb, List, [], ◌∷◌, length, get_or, drop, mul_assoc, one-mul, mul-one, arith}
use Rattle.std.proofs.lemmas.Bool.{and_parts, leb-true}
use Rattle.columns.specs.Columns.{product}
use Rattle.columns.proofs.Digits.{Positive}
use Rattle.numbering.specs.Limits.{small_product, sound_sizes}

-- each size is 2 to 16
abbrev pub Ranged : List ℕ → Type 0
Ranged [] = Unit {0}
Ranged (d ∷ ds) = (2 ≤ d) × (d ≤ 16) × Ranged ds

small_ranged : (p : ℕ) (ds : List ℕ) → small_product p ds ≡ true → Ranged ds
small_ranged p [] h = tt
small_ranged p (d ∷ ds) h =
    let a = and_parts _ _ h in
    let b = and_parts _ _ a.1 in
    let c = and_parts _ _ b.1 in
    (leb-true _ _ a.0, leb-true _ _ b.0, small_ranged (p * d) ds c.1)

small_most : (p : ℕ) (ds : List ℕ) → p ≤ 4096 → small_product p ds ≡ true → p * product ds ≤ 4096
small_most p [] le h = omega (arith, mul-one p)
small_most p (d ∷ ds) le h =
    let a = and_parts (leb 2 d) _ h in
    let b = and_parts (leb d 16) _ a.1 in
    let c = and_parts (leb (p * d) 4096) _ b.1 in
    omega (arith, mul_assoc p d (product ds), small_most (p * d) ds (leb-true _ _ c.0) c.1)

pub ranged_positive : (ds : List ℕ) → Ranged ds → Positive ds
ranged_positive [] h = tt
ranged_positive (d ∷ ds) h = (omega (arith, h.0), ranged_positive ds h.2)

module _ (ds : List ℕ) (h : sound_sizes ds ≡ true) where
  parts : (leb 1 (length ds) ≡ true) × ((leb (length ds) 12 && small_product 1 ds) ≡ true)
  parts = and_parts _ _ h

  pub sound_some : 1 ≤ length ds
  sound_some = leb-true _ _ parts.0

  pub sound_few : length ds ≤ 12
  sound_few = leb-true _ _ (and_parts _ _ parts.1).0

  pub sound_ranged : Ranged ds
  sound_ranged = small_ranged 1 ds (and_parts _ _ parts.1).1

  pub sound_most : product ds ≤ 4096
  sound_most = omega (arith, one-mul (product ds), small_most 1 ds (omega arith) (and_parts _ _ parts.1).1)

pub ranged_drop : (n : ℕ) (ds : List ℕ) → Ranged ds → Ranged (drop n ds)
ranged_drop zero ds h = h
ranged_drop (suc n) [] h = tt
ranged_drop (suc n) (d ∷ ds) h = ranged_drop n ds h.2

pub ranged_at : (ds : List ℕ) (i : ℕ) → Ranged ds → i < length ds → (2 ≤ get_or ds i 0) × (get_or ds i 0 ≤ 16)
ranged_at [] i h lt = absurd (omega arith)
ranged_at (d ∷ ds) zero h lt = (h.0, h.1)
ranged_at (d ∷ ds) (suc i) h lt = ranged_at ds i h.2 (omega arith)
