-- The product of the sizes of a cluster.
use Rattle.std.proofs.Common.{◌≡◌, ℕ, Option, zero, suc, ◌*◌, ◌<◌, ◌≤◌, true, false, cond, eqb, List, [], ◌∷◌, length, map, take, sym, refl, ap, ◌∙◌, subst, mul_assoc, mul-one, arith}
use Rattle.std.proofs.Math.Nat.{mul-le-mul_left}
use Rattle.std.proofs.lemmas.List.{map-id}
use Rattle.std.proofs.lemmas.Iterator.{YieldsList}
use Rattle.std.proofs.lemmas.Iterator.Consumers.{YieldsList-so_far}
use Rattle.std.specs.Iterator.{Yields}
use Rattle.std.specs.Iterator.Runs.{EachRunFrom, YieldsRun}
use Rattle.std.specs.List.{filter, fold, zip}
use Rattle.columns.specs.Columns.{product}
use Rattle.columns.proofs.Digits.{Positive, product_positive}
use Rattle.tuples.specs.Tuples.{within}

pub within_zip : (k : ℕ) (ds cs : List ℕ) → map (λ (p : ℕ × ℕ). p.0) (filter (λ (p : ℕ × ℕ). eqb p.1 k) (zip ds cs)) ≡ within k cs ds
within_zip k [] [] = refl
within_zip k [] (c ∷ cs) = refl
within_zip k (d ∷ ds) [] = refl
within_zip k (d ∷ ds) (c ∷ cs) =
    let rest = within_zip k ds cs in
    elim (eqb c k) as (λ b. map (λ (p : ℕ × ℕ). p.0) (cond b ((d, c) ∷ filter (λ (p : ℕ × ℕ). eqb p.1 k) (zip ds cs)) (filter (λ (p : ℕ × ℕ). eqb p.1 k) (zip ds cs))) ≡ cond b (d ∷ within k cs ds) (within k cs ds)) [ true ↦ ap (λ l. d ∷ l) rest | false ↦ rest ]

pub fold_product : (w : ℕ) (xs : List ℕ) → fold (λ a x. a * x) w xs ≡ w * product xs
fold_product w [] = sym (mul-one w)
fold_product w (x ∷ xs) = fold_product (w * x) xs ∙ mul_assoc w x (product xs)

product_front : (n : ℕ) (xs : List ℕ) → Positive xs → product (take n xs) ≤ product xs
product_front zero xs p = omega (arith, product_positive xs p)
product_front (suc n) [] p = omega arith
product_front (suc n) (x ∷ xs) p = mul-le-mul_left x (product_front n xs p.1)

-- the products along a chain that gives xs, all positive, are at most that of xs
pub products_fit : {S : Type 0} {steps : S → Option ℕ → S → Type 0} {s : S} {all : List ℕ} (xs : List ℕ) (top : ℕ) → YieldsList steps (λ x. x) s all → all ≡ xs → Positive xs → product xs < top → EachRunFrom steps s (λ p. fold (λ a x. a * x) 1 p.items < top)
unfolding YieldsRun
products_fit {steps = steps} {all = all} xs top road same some lt = λ p _ at.
    let y = subst (λ u. Yields steps u p.items p.gave.0.0) at p.gave.0.1 in
    let front : p.items ≡ take (length p.items) xs = sym (map-id p.items) ∙ YieldsList-so_far road p.items p.gave.0.0 y ∙ ap (λ l. take (length p.items) l) same in
    omega (arith, fold_product 1 p.items, ap product front, product_front (length p.items) xs some)
