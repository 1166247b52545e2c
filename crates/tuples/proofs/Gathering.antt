-- A state taken apart value by value, each value put behind the tuple of its cluster.
use Rattle.std.proofs.Common.{◌≡◌, ℕ, ◌+◌, ◌*◌, ◌/◌, ◌%◌, ◌<◌, Bool, true, false, cond, eqb, List, ◌∷◌, length, get_or, drop, set, sym, refl, ap, ◌∙◌, inl, inr, mul_assoc, add-mul, le-mul_of_pos_right, arith, length-set}
use native.Mathlib.Nat.{mul-div_cancel_left}
use Rattle.std.proofs.lemmas.List.{at_drop_more, drop_more, get_or-set_same, get_or-set_other}
use Rattle.std.proofs.lemmas.Bool.{cases_eq, eq-eqb, ne_eqb, cond-true, cond-false}
use Rattle.columns.specs.Columns.{product, number, values}
use Rattle.columns.proofs.Digits.{product_positive}
use Rattle.clusters.specs.Shapes.{Shape}
use Rattle.tuples.specs.Tuples.{within, tuple}
use Rattle.tuples.proofs.StateGrid.{shape_positive, grid}
use Rattle.tuples.proofs.Widths.{positive_drop, rest_positive, width_most}

-- ts has the tuples of the first i variables, and `rest` the values of the others; w is how many states those from i on have
pub record Gathering (ds cs : List ℕ) (s : ℕ) (ts : List ℕ) (i w rest : ℕ) : Type 0 where
  pub long : length ts ≡ 12
  pub wide : w ≡ product (drop i ds)
  pub same : (k : ℕ) → get_or ts k 0 * product (within k (drop i cs) (drop i ds)) + number (within k (drop i cs) (drop i ds)) (within k (drop i cs) (values (drop i ds) rest)) ≡ tuple ds cs k s

-- one value behind the tuple so far, where b says whether its variable is of the cluster
tuple_more : (b : Bool) (a d x : ℕ) (ws vs : List ℕ) → cond b (a * d + x) a * product ws + number ws vs ≡ a * product (cond b (d ∷ ws) ws) + number (cond b (d ∷ ws) ws) (cond b (x ∷ vs) vs)
tuple_more true a d x ws vs = omega (arith, add-mul (a * d) x (product ws), mul_assoc a d (product ws))
tuple_more false a d x ws vs = refl

put_at : (ts : List ℕ) (c k d x : ℕ) → c < length ts → get_or (set ts c (get_or ts c 0 * d + x)) k 0 ≡ cond (eqb c k) (get_or ts k 0 * d + x) (get_or ts k 0)
put_at ts c k d x lt =
    let y = get_or ts c 0 * d + x in
    elim (cases_eq c k) [
      | inl e ↦ sym (ap (λ j. get_or (set ts c y) j 0) e) ∙ get_or-set_same ts c y 0 lt ∙ ap (λ j. get_or ts j 0 * d + x) e ∙ sym (cond-true _ _ _ (eq-eqb c k e))
      | inr other ↦ get_or-set_other ts c k y 0 (λ e. other (sym e)) ∙ sym (cond-false _ _ _ (ne_eqb c k other))
    ]

module _ (ds cs : List ℕ) (s : ℕ) (ts : List ℕ) (i w rest : ℕ) (in_ds : i < length ds) (in_cs : i < length cs) (some : 0 < get_or ds i 0) (few : get_or cs i 0 < 12) (h : Gathering ds cs s ts i w rest) where
  pub next_wide : w / get_or ds i 0 ≡ product (drop (i + 1) ds)
  next_wide =
      ap (λ k. k / get_or ds i 0) (h.wide ∙ at_drop_more product ds i 0 in_ds) ∙ mul-div_cancel_left (product (drop (i + 1) ds)) some

  pub gathering_more : Gathering ds cs s (set ts (get_or cs i 0) (get_or ts (get_or cs i 0) 0 * get_or ds i 0 + rest / (w / get_or ds i 0))) (i + 1) (w / get_or ds i 0) (rest % (w / get_or ds i 0))
  gathering_more =
      let c = get_or cs i 0 in
      let d = get_or ds i 0 in
      let u = w / d in
      let cs' = drop (i + 1) cs in
      let ds' = drop (i + 1) ds in
      record {
        long = length-set ts c (get_or ts c 0 * d + rest / u) ∙ h.long;
        wide = next_wide;
        same = λ k.
            let a = get_or ts k 0 in
            let sizes = within k cs' ds' in
            (λ j. put_at ts c k d (rest / u) (omega (arith, h.long)) j * product sizes + number sizes (within k cs' (values ds' (rest % u)))) ∙ (λ j. cond (eqb c k) (a * d + rest / next_wide j) a * product sizes + number sizes (within k cs' (values ds' (rest % next_wide j)))) ∙ tuple_more (eqb c k) a d (rest / product ds') sizes (within k cs' (values ds' (rest % product ds'))) ∙ sym (λ j. a * product (within k (drop_more cs i 0 in_cs j) (drop_more ds i 0 in_ds j)) + number (within k (drop_more cs i 0 in_cs j) (drop_more ds i 0 in_ds j)) (within k (drop_more cs i 0 in_cs j) (values (drop_more ds i 0 in_ds j) rest))) ∙ h.same k;
      }

-- each tuple so far is small
pub gathering_small : (ds cs : List ℕ) (m : ℕ) → Shape ds cs m → (s : ℕ) (ts : List ℕ) (i w rest k : ℕ) → s < product ds → k < m → Gathering ds cs s ts i w rest → get_or ts k 0 < 4096
gathering_small ds cs m shape s ts i w rest k lt in_m h =
    omega (arith, le-mul_of_pos_right (get_or ts k 0) (rest_positive k i ds cs (shape_positive ds cs m shape)), h.same k, (grid ds cs m shape).below k s in_m lt, width_most ds cs m shape k)

-- a turn of the loop, at the variable v with its size and its cluster
module _ (ds cs : List ℕ) (m : ℕ) (shape : Shape ds cs m) (s : ℕ) (ts : List ℕ) (v w rest size k : ℕ) (lt : v < length ds) (sized : size ≡ get_or ds v 0) (at : k ≡ get_or cs v 0) (h : Gathering ds cs s ts v w rest) where
  pub turn : Gathering ds cs s (set ts k (get_or ts k 0 * size + rest / (w / size))) (v + 1) (w / size) (rest % (w / size))
  turn =
      rw (sized, at) (gathering_more ds cs s ts v w rest lt (omega (arith, shape.each)) (omega (arith, shape.wide v lt)) (omega (arith, shape.below v lt, shape.fewer, shape.few)) h)

  pub turn_wide : 0 < w / size
  turn_wide = omega (arith, turn.wide, product_positive (drop (v + 1) ds) (positive_drop (v + 1) ds (shape_positive ds cs m shape)))

  pub turn_small : s < product ds → get_or ts k 0 * size + rest / (w / size) < 4096
  turn_small state =
      let y = get_or ts k 0 * size + rest / (w / size) in
      let in_m : k < m = omega (arith, at, shape.below v lt) in
      omega (arith, gathering_small ds cs m shape s (set ts k y) (v + 1) (w / size) (rest % (w / size)) k state in_m turn, get_or-set_same ts k y 0 (omega (arith, h.long, in_m, shape.fewer, shape.few)))
