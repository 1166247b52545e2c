-- Numbers and values, both ways.
use Rattle.std.proofs.Common.{◌≡◌, ℕ, zero, suc, ◌+◌, ◌*◌, ◌/◌, ◌%◌, ◌<◌, ◌≤◌, true, false, ltb, List, [], ◌∷◌, length, get_or, drop, refl, ap, ◌∙◌, mod-lt, mul_comm, div-lt_iff_lt-mul, mul-pos, div-add-mod', le-mul_of_pos_right, arith}
use lib.Arith.{digits_lt, digits_div, digits_mod}
use Rattle.std.proofs.lemmas.Bool.{and_parts, and_from, and_right, lt-ltb, ltb-true, false≢true}
use Rattle.columns.specs.Columns.{product, number, values, fit}

-- each size is above 0
abbrev pub Positive : List ℕ → Type 0
Positive [] = Unit {0}
Positive (d ∷ ds) = (0 < d) × Positive ds

pub product_positive : (ds : List ℕ) → Positive ds → 0 < product ds
product_positive [] h = omega arith
product_positive (d ∷ ds) h = mul-pos h.0 (product_positive ds h.1)

pub product_drop : (i : ℕ) (ds : List ℕ) → Positive ds → product (drop i ds) ≤ product ds
product_drop zero ds h = omega arith
product_drop (suc i) [] h = omega arith
product_drop (suc i) (d ∷ ds) h = omega (arith, product_drop i ds h.1, le-mul_of_pos_right (product ds) h.0, mul_comm (product ds) d)

pub number_below : (ds vs : List ℕ) → fit ds vs ≡ true → number ds vs < product ds
number_below [] [] h = omega arith
number_below [] (v ∷ vs) h = absurd (false≢true h)
number_below (d ∷ ds) [] h = absurd (false≢true h)
number_below (d ∷ ds) (v ∷ vs) h =
    let p = and_parts _ _ h in
    digits_lt (ltb-true v d p.0) (number_below ds vs p.1)

pub length_values : (ds : List ℕ) (s : ℕ) → length (values ds s) ≡ length ds
length_values [] s = refl
length_values (d ∷ ds) s = ap suc (length_values ds (s % product ds))

-- from values to a number and back
pub values_number : (ds vs : List ℕ) → fit ds vs ≡ true → values ds (number ds vs) ≡ vs
values_number [] [] h = refl
values_number [] (v ∷ vs) h = absurd (false≢true h)
values_number (d ∷ ds) [] h = absurd (false≢true h)
values_number (d ∷ ds) (v ∷ vs) h =
    let p = and_parts _ _ h in
    let rest = number_below ds vs p.1 in
    (λ i. digits_div v rest i ∷ values ds (digits_mod v rest i)) ∙ ap (λ l. v ∷ l) (values_number ds vs p.1)

-- from a number to values and back
pub number_values : (ds : List ℕ) (s : ℕ) → Positive ds → s < product ds → number ds (values ds s) ≡ s
number_values [] s p lt = omega arith
number_values (d ∷ ds) s p lt =
    let under = mod-lt s (product_positive ds p.1) in
    ap (λ k. s / product ds * product ds + k) (number_values ds (s % product ds) p.1 under) ∙ div-add-mod' s (product ds)

pub first_below : (d : ℕ) (ds : List ℕ) (s : ℕ) → Positive ds → s < d * product ds → s / product ds < d
first_below d ds s p lt = (div-lt_iff_lt-mul (product_positive ds p)).1 lt

pub values_fit : (ds : List ℕ) (s : ℕ) → Positive ds → s < product ds → fit ds (values ds s) ≡ true
values_fit [] s p lt = refl
values_fit (d ∷ ds) s p lt =
    and_from _ _ (lt-ltb _ _ (first_below d ds s p.1 lt)) (values_fit ds (s % product ds) p.1 (mod-lt s (product_positive ds p.1)))

pub fit_at : (ds vs : List ℕ) (v : ℕ) → fit ds vs ≡ true → v < length ds → get_or vs v 0 < get_or ds v 0
fit_at [] vs v h lt = absurd (omega arith)
fit_at (d ∷ ds) [] v h lt = absurd (false≢true h)
fit_at (d ∷ ds) (x ∷ vs) zero h lt = ltb-true x d (and_parts _ _ h).0
fit_at (d ∷ ds) (x ∷ vs) (suc v) h lt = fit_at ds vs v (and_parts _ _ h).1 (omega arith)

pub fit_length : (ds vs : List ℕ) → (length ds ≡ length vs → ⊥) → fit ds vs ≡ false
fit_length [] [] h = absurd (h refl)
fit_length [] (v ∷ vs) h = refl
fit_length (d ∷ ds) [] h = refl
fit_length (d ∷ ds) (v ∷ vs) h = and_right (ltb v d) _ (fit_length ds vs (λ e. h (ap suc e)))
