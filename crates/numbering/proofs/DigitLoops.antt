-- A number taken apart value by value, and put together.
use Rattle.std.proofs.Common.{◌≡◌, ℕ, ◌+◌, ◌*◌, ◌/◌, ◌%◌, ◌<◌, ◌≤◌, true, false, ◌&&◌, ltb, List, [], ◌∷◌, ◌++◌, length, get_or, take, drop, set, sym, ap, ◌∙◌, subst, append_assoc, mul-le-mul_right, mul_assoc, add-mul, mul-le-mul_left, one-mul, mul-one, arith, length-set}
use native.Mathlib.Nat.{mul-div_cancel_left}
use Rattle.std.proofs.lemmas.List.{at_drop_more, at_drop_all, drop_more, take_more_set}
use Rattle.std.proofs.lemmas.Bool.{lt-ltb, le-ltb, and_left}
use Rattle.columns.specs.Columns.{product, values, number, fit}

-- the first i values stand in `each`, and `rest` has the others; w is how many states those from i on have
pub record Splitting (ds : List ℕ) (s : ℕ) (each : List ℕ) (i w rest : ℕ) : Type 0 where
  pub long : length each ≡ 12
  pub wide : w ≡ product (drop i ds)
  pub same : take i each ++ values (drop i ds) rest ≡ values ds s

module _ (ds : List ℕ) (s : ℕ) (each : List ℕ) (i w rest : ℕ) (lt : i < length ds) (few : length ds ≤ 12) (some : 0 < get_or ds i 0) (m : Splitting ds s each i w rest) where
  pub next_wide : w / get_or ds i 0 ≡ product (drop (i + 1) ds)
  next_wide =
      ap (λ k. k / get_or ds i 0) (m.wide ∙ at_drop_more product ds i 0 lt) ∙ mul-div_cancel_left (product (drop (i + 1) ds)) some

  pub splitting_more : Splitting ds s (set each i (rest / (w / get_or ds i 0))) (i + 1) (w / get_or ds i 0) (rest % (w / get_or ds i 0))
  splitting_more =
      let v = w / get_or ds i 0 in
      let within : i < length each = omega (arith, m.long) in
      record {
        long = length-set each i (rest / v) ∙ m.long;
        wide = next_wide;
        same = ap (λ l. l ++ values (drop (i + 1) ds) (rest % v)) (take_more_set each i (rest / v) within) ∙ append_assoc (take i each) (rest / v ∷ []) (values (drop (i + 1) ds) (rest % v)) ∙ ap (λ k. take i each ++ rest / k ∷ values (drop (i + 1) ds) (rest % k)) next_wide ∙ sym (ap (λ l. take i each ++ l) (at_drop_more (λ l. values l rest) ds i 0 lt)) ∙ m.same;
      }

-- the first i values are put together to n
pub record Adding (ds vs : List ℕ) (i n : ℕ) : Type 0 where
  pub room : (n + 1) * product (drop i ds) ≤ product ds
  pub same : n * product (drop i ds) + number (drop i ds) (drop i vs) ≡ number ds vs
  pub fits : fit (drop i ds) (drop i vs) ≡ fit ds vs

module _ (ds vs : List ℕ) (i n : ℕ) (in_ds : i < length ds) (in_vs : i < length vs) (m : Adding ds vs i n) where
  next_number : number (drop i ds) (drop i vs) ≡ get_or vs i 0 * product (drop (i + 1) ds) + number (drop (i + 1) ds) (drop (i + 1) vs)
  next_number = λ j. number (drop_more ds i 0 in_ds j) (drop_more vs i 0 in_vs j)

  next_fit : fit (drop i ds) (drop i vs) ≡ (ltb (get_or vs i 0) (get_or ds i 0) && fit (drop (i + 1) ds) (drop (i + 1) vs))
  next_fit = λ j. fit (drop_more ds i 0 in_ds j) (drop_more vs i 0 in_vs j)

  next_product : product (drop i ds) ≡ get_or ds i 0 * product (drop (i + 1) ds)
  next_product = at_drop_more product ds i 0 in_ds

  pub adding_stop : get_or ds i 0 ≤ get_or vs i 0 → fit ds vs ≡ false
  adding_stop le = sym m.fits ∙ next_fit ∙ and_left _ _ (le-ltb _ _ le)

  pub adding_more : get_or vs i 0 < get_or ds i 0 → Adding ds vs (i + 1) (n * get_or ds i 0 + get_or vs i 0)
  adding_more lt =
      let d = get_or ds i 0 in
      let v = get_or vs i 0 in
      let w = product (drop (i + 1) ds) in
      let up : (n * d + v + 1) * w ≤ (n * d + d) * w = mul-le-mul_right w (omega arith) in
      let square : (n * d + d) * w ≡ (n + 1) * (d * w) = ap (λ k. k * w) (ap (λ k. n * d + k) (sym (one-mul d)) ∙ sym (add-mul n 1 d)) ∙ mul_assoc (n + 1) d w in
      let old : (n + 1) * (d * w) ≤ product ds = subst (λ k. (n + 1) * k ≤ product ds) next_product m.room in
      record {
        room = omega (arith, up, square, old);
        same = omega (arith, add-mul (n * d) v w, mul_assoc n d w, ap (λ k. n * k) next_product, next_number, m.same);
        fits = sym (next_fit ∙ ap (λ b. b && fit (drop (i + 1) ds) (drop (i + 1) vs)) (lt-ltb v d lt)) ∙ m.fits;
      }

-- the next number is small
pub adding_small : (ds vs : List ℕ) (i n : ℕ) → i < length ds → 0 < product (drop (i + 1) ds) → product ds ≤ 4096 → Adding ds vs i n → (n + 1) * get_or ds i 0 ≤ 4096
adding_small ds vs i n lt some few m =
    let d = get_or ds i 0 in
    let w = product (drop (i + 1) ds) in
    let old : (n + 1) * (d * w) ≤ product ds = subst (λ k. (n + 1) * k ≤ product ds) (at_drop_more product ds i 0 lt) m.room in
    let one : (n + 1) * d * 1 ≤ (n + 1) * d * w = mul-le-mul_left ((n + 1) * d) some in
    omega (arith, old, one, mul-one ((n + 1) * d), mul_assoc (n + 1) d w)

pub adding_all : (ds vs : List ℕ) (i n : ℕ) → length ds ≤ i → length vs ≤ i → Adding ds vs i n → (n ≡ number ds vs) × (fit ds vs ≡ true)
adding_all ds vs i n le more m =
    let none : drop i ds ≡ [] = at_drop_all (λ l. l) ds i le in
    let end : drop i vs ≡ [] = at_drop_all (λ l. l) vs i more in
    let same : n * 1 + 0 ≡ number ds vs = sym (λ j. n * product (none j) + number (none j) (end j)) ∙ m.same in
    (omega (arith, same, mul-one n), sym m.fits ∙ λ j. fit (none j) (end j))
