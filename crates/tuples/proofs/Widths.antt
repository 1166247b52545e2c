-- How many tuples the clusters have, and where they stand.
use Rattle.std.proofs.Common.{◌≡◌, ℕ, zero, suc, ◌+◌, ◌*◌, ◌<◌, ◌≤◌, Bool, true, false, cond, eqb, List, [], ◌∷◌, drop, ap, inl, inr, mul_comm, mul-le-mul, le-mul_of_pos_right, add-one, arith}
use Rattle.std.proofs.lemmas.Bool.{cases_eq}
use Rattle.columns.specs.Columns.{product, number, values}
use Rattle.columns.proofs.Digits.{Positive, product_positive}
use Rattle.clusters.specs.Shapes.{Shape}
use Rattle.tuples.specs.Tuples.{within, width, tuple, tuples_before}
use Rattle.tuples.specs.Tables.{place}
use Rattle.tuples.proofs.Within.{within_positive, within_none}
use Rattle.tuples.proofs.StateGrid.{shape_positive, grid}

product_cond : (b : Bool) (d n : ℕ) (ws : List ℕ) → 0 < d → product ws ≤ n → product (cond b (d ∷ ws) ws) ≤ d * n
product_cond true d n ws some le = mul-le-mul (omega arith) le
product_cond false d n ws some le = omega (arith, le-mul_of_pos_right n some, mul_comm n d)

pub width_product : (k : ℕ) (cs ds : List ℕ) → Positive ds → product (within k cs ds) ≤ product ds
width_product k [] ds p = omega (arith, product_positive ds p)
width_product k (c ∷ cs) [] p = omega arith
width_product k (c ∷ cs) (d ∷ ds) p = product_cond (eqb c k) d (product ds) (within k cs ds) p.0 (width_product k cs ds p.1)

module _ (ds cs : List ℕ) (m : ℕ) (shape : Shape ds cs m) where
  pub width_most : (k : ℕ) → width ds cs k ≤ 4096
  width_most k = omega (arith, width_product k cs ds (shape_positive ds cs m shape), shape.most)

  pub before_most : (k : ℕ) → tuples_before ds cs k ≤ k * 4096
  before_most zero = omega arith
  before_most (suc k) = omega (arith, before_most k, width_most k)

  -- a number that is no cluster has no variables, so that its only tuple is 0
  pub no_tuple : (k s : ℕ) → m ≤ k → tuple ds cs k s ≡ 0
  no_tuple k s le =
      let none = within_none k cs ds (λ v lt e. omega (arith, shape.below v (omega (arith, shape.each)), e)) in
      ap (λ l. number l (within k cs (values ds s))) none

pub before_more : (ds cs : List ℕ) (k : ℕ) → tuples_before ds cs (k + 1) ≡ tuples_before ds cs k + width ds cs k
before_more ds cs k = ap (tuples_before ds cs) (add-one k)

pub before_rises : (ds cs : List ℕ) (j k : ℕ) → j ≤ k → tuples_before ds cs j ≤ tuples_before ds cs k
before_rises ds cs j zero le = let e : j ≡ 0 = omega arith in omega (arith, ap (tuples_before ds cs) e)
before_rises ds cs j (suc k) le =
    elim (cases_eq j (suc k)) [ inl e ↦ omega (arith, ap (tuples_before ds cs) e) | inr other ↦ omega (arith, before_rises ds cs j k (omega arith)) ]

-- the tuples of the cluster j end before those of a later one
pub before_ends : (ds cs : List ℕ) (j k : ℕ) → j < k → tuples_before ds cs j + width ds cs j ≤ tuples_before ds cs k
before_ends ds cs j k lt = before_rises ds cs (suc j) k (omega arith)

pub place_below : (ds cs : List ℕ) (m : ℕ) → Shape ds cs m → (k s : ℕ) → k < m → s < product ds → place ds cs s k < tuples_before ds cs m
place_below ds cs m shape k s lt state = omega (arith, (grid ds cs m shape).below k s lt state, before_ends ds cs k m lt)

pub positive_drop : (i : ℕ) (ds : List ℕ) → Positive ds → Positive (drop i ds)
positive_drop zero ds p = p
positive_drop (suc i) [] p = tt
positive_drop (suc i) (d ∷ ds) p = positive_drop i ds p.1

pub rest_positive : (k i : ℕ) (ds cs : List ℕ) → Positive ds → 0 < product (within k (drop i cs) (drop i ds))
rest_positive k i ds cs p = product_positive (within k (drop i cs) (drop i ds)) (within_positive k (drop i cs) (drop i ds) (positive_drop i ds p))
