-- What a `Sizes` knows of itself.
use Rattle.std.proofs.Common.{◌≡◌, ℕ, ◌<◌, ◌≤◌, get_or, drop, arith}
use Rattle.columns.specs.Columns.{product}
use Rattle.columns.proofs.Digits.{Positive, product_positive, product_drop}
use Rattle.numbering.specs.Numbers.{sizes_in}
use Rattle.numbering.specs.declared.sizes.Sizes.{Sizes}
use Rattle.numbering.proofs.SizeFacts.{Ranged, sound_few, sound_ranged, sound_most, ranged_positive, ranged_drop, ranged_at}

module _ (x : Sizes) where
  pub own_few : x.count ≤ 12
  own_few = omega (arith, x.counted, sound_few (sizes_in x) x.sound)

  pub own_most : product (sizes_in x) ≤ 4096
  own_most = sound_most (sizes_in x) x.sound

  ranged : Ranged (sizes_in x)
  ranged = sound_ranged (sizes_in x) x.sound

  pub own_positive : Positive (sizes_in x)
  own_positive = ranged_positive (sizes_in x) ranged

  pub own_product : (i : ℕ) → 0 < product (drop i (sizes_in x))
  own_product i = product_positive (drop i (sizes_in x)) (ranged_positive (drop i (sizes_in x)) (ranged_drop i (sizes_in x) ranged))

  pub own_wide : (i w : ℕ) → w ≡ product (drop i (sizes_in x)) → w ≤ 4096
  own_wide i w e = omega (arith, e, own_most, product_drop i (sizes_in x) own_positive)

  module _ (i : ℕ) (lt : i < x.count) where
    pub own_range : (2 ≤ get_or (sizes_in x) i 0) × (get_or (sizes_in x) i 0 ≤ 16)
    own_range = ranged_at (sizes_in x) i ranged (omega (arith, x.counted))
