use Rattle.std.proofs.Common.{ℕ, ◌+◌, ◌/◌, ◌<◌, List, length, get_or, arith}
use Rattle.numbering.specs.Numbers.{sizes_in}
use Rattle.numbering.specs.declared.sizes.Sizes.{Sizes}
use Rattle.numbering.proofs.DigitLoops.{Splitting, splitting_more, next_wide}
use Rattle.numbering.proofs.OwnSizes.{own_few, own_range, own_product}
use Rattle.numbering.proofs.sizes.Sizes.values.Goals as goal

module _ (x : Sizes) (s : ℕ) (each : List ℕ) (i w rest : ℕ) (lt : i < length (sizes_in x)) (m : Splitting (sizes_in x) s each i w rest) where
  positive_size : 0 < get_or (sizes_in x) i 0
  positive_size = omega (arith, (own_range x i (omega (arith, x.counted))).0)

  positive_width : 0 < w / get_or (sizes_in x) i 0
  positive_width =
      omega (arith, next_wide (sizes_in x) s each i w rest lt (omega (arith, own_few x, x.counted)) positive_size m, own_product x (i + 1))

pub nonzero_div-w : goal.nonzero_div-w
nonzero_div-w c =
    let lt = rw c.as_slice-size-items.ensures at c.loop-i-test.true in
    rw c.as_slice-size-items.ensures (positive_size c.args.self.now c.args.s c.loop-i.each c.loop-i.i c.loop-i.w c.loop-i.rest lt c.loop-i.invariant)

pub nonzero_div-each : goal.nonzero_div-each
nonzero_div-each c =
    let lt = rw c.as_slice-size-items.ensures at c.loop-i-test.true in
    rw c.as_slice-size-items.ensures (positive_width c.args.self.now c.args.s c.loop-i.each c.loop-i.i c.loop-i.w c.loop-i.rest lt c.loop-i.invariant)

pub nonzero_rem-rest : goal.nonzero_rem-rest
nonzero_rem-rest c =
    let lt = rw c.as_slice-size-items.ensures at c.loop-i-test.true in
    rw c.as_slice-size-items.ensures (positive_width c.args.self.now c.args.s c.loop-i.each c.loop-i.i c.loop-i.w c.loop-i.rest lt c.loop-i.invariant)

pub loop-i-preserved : goal.loop-i-preserved
loop-i-preserved c =
    let x = c.args.self.now in
    let lt = rw c.as_slice-size-items.ensures at c.loop-i-test.true in
    rw c.as_slice-size-items.ensures (splitting_more (sizes_in x) c.args.s c.loop-i.each c.loop-i.i c.loop-i.w c.loop-i.rest lt (omega (arith, own_few x, x.counted)) (positive_size x c.args.s c.loop-i.each c.loop-i.i c.loop-i.w c.loop-i.rest lt c.loop-i.invariant) c.loop-i.invariant)
