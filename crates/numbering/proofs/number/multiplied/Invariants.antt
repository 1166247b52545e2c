use Rattle.std.proofs.Common.{◌≡◌, ◌*◌, ◌≤◌, drop}
use Rattle.columns.specs.Columns.{product}
use Rattle.numbering.specs.Limits.{small_product}
use Rattle.numbering.proofs.number.multiplied.Given as goal

-- the sizes before this one are multiplied
abbrev pub invariant-loop-d : goal.invariant-loop-d
invariant-loop-d l = record {
  most : l.p ≤ 4096;
  same : small_product l.p (drop l.d-index l.sizes) ≡ small_product 1 l.sizes;
  whole : l.p * product (drop l.d-index l.sizes) ≡ product l.sizes;
}
