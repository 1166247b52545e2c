-- The product of the class counts, as a fold that stays small.
use Rattle.std.proofs.Common.{◌≡◌, ℕ, ◌*◌, ◌<◌, ◌≤◌, max, List, [], ◌∷◌, take, sym, ap, subst, ◌∙◌, mul_assoc, mul-one, one-mul, mul-le-mul, mul-le-mul_left, arith}
use denote.Ref.{Bor}
use Rattle.std.specs.List.{fold}
use Rattle.columns.specs.Columns.{product}
use Rattle.columns.proofs.Digits.{Positive}
use Rattle.tuples.specs.Meaning.{count_of}
use Rattle.columnsheet.specs.Kept.{class_count}
use Rattle.columnsheet.specs.declared.parts.Parts.{Parts}
use Rattle.columnsheet.proofs.JoinLoops.{sizes_positive, counts_are}
use Rattle.columnsheet.proofs.OwnTuples.{own_total}

-- a factor that never makes a product smaller
abbrev raised : ℕ → ℕ → ℕ
raised a x = a * max 1 x

raised_most : (a x : ℕ) → a ≤ raised a x
raised_most a x = let some : 1 ≤ max 1 x = omega arith in omega (arith, mul-le-mul_left a some, mul-one a)

fold_raised : (xs : List (Bor ℕ)) (a b : ℕ) → a ≤ b → fold (λ a x. a * x.now) a xs ≤ fold (λ a x. raised a x.now) b xs
fold_raised [] a b le = le
fold_raised (x ∷ xs) a b le = fold_raised xs (a * x.now) (b * max 1 x.now) (mul-le-mul le (omega arith))

raised_product : (xs : List ℕ) (a : ℕ) → Positive xs → fold raised a xs ≡ a * product xs
raised_product [] a h = sym (mul-one a)
raised_product (x ∷ xs) a h = let same : max 1 x ≡ x = omega (arith, h.0) in raised_product xs (a * max 1 x) h.1 ∙ ap (λ y. a * y * product xs) same ∙ mul_assoc a x (product xs)

fold_product : (xs : List ℕ) (a : ℕ) → fold (λ a x. a * x) a xs ≡ a * product xs
fold_product [] a = sym (mul-one a)
fold_product (x ∷ xs) a = fold_product xs (a * x) ∙ mul_assoc a x (product xs)

module _ (p : Parts) (m : ℕ) (all : m ≡ count_of p.tuples) where
  -- of any items that no fold that never falls makes more of than of the counts
  pub counts_fit : (xs : List (Bor ℕ)) (ys : List ℕ) → ((h : ℕ → ℕ → ℕ) (n : ℕ) → ((a y : ℕ) → a ≤ h a y) → fold (λ a x. h a x.now) n xs ≤ fold h n ys) → ys ≡ take m p.counts → fold (λ a x. a * x.now) 1 xs < 65536
  counts_fit xs ys most same =
      omega (
        arith,
        fold_raised xs 1 1 (omega arith),
        most raised 1 raised_most,
        ap (fold raised 1) same,
        raised_product (take m p.counts) 1 (subst Positive (sym (counts_are p m all)) (sizes_positive p)) ∙ one-mul (product (take m p.counts)) ∙ ap product (counts_are p m all),
        own_total p,
      )

  pub counts_product : (r : ℕ) → r ≡ fold (λ a x. a * x) 1 (take m p.counts) → r ≡ class_count p
  counts_product r is = is ∙ fold_product (take m p.counts) 1 ∙ one-mul (product (take m p.counts)) ∙ ap product (counts_are p m all)
