-- Which sizes are accepted.
use Rattle.std.specs.Prelude.{◌≡◌, ℕ, ◌*◌, Bool, true, false, ◌&&◌, List, [], ◌∷◌, length, Some, None, Option, nat_le}
use Rattle.columns.specs.Columns.{product}

-- Each size is 2 to 16, and no product of the first few is above 4096; p is the product of those before. No size being 0, that says that the whole
-- product is at most 4096.
abbrev pub small_product : ℕ → List ℕ → Bool
small_product p [] = true
small_product p (d ∷ ds) = nat_le 2 d && (nat_le d 16 && (nat_le (p * d) 4096 && small_product (p * d) ds))

-- 1 to 12 sizes, each 2 to 16, and at most 4096 states
abbrev pub sound_sizes : List ℕ → Bool
sound_sizes ds = nat_le 1 (length ds) && (nat_le (length ds) 12 && small_product 1 ds)

-- a product, or none where the sizes are too large
abbrev pub Multiplied : List ℕ → Option ℕ → Type 0
Multiplied ds None = small_product 1 ds ≡ false
Multiplied ds (Some p) = (small_product 1 ds ≡ true) × (p ≡ product ds)
