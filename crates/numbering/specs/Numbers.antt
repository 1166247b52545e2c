-- What the types of the code stand for.
use Rattle.std.specs.Prelude.{ℕ, List, take}
use Rattle.numbering.specs.declared.sizes.Sizes.{Sizes}
use Rattle.numbering.specs.declared.sizes.Values.{Values}

-- the sizes, the first variable's first
abbrev pub sizes_in : Sizes → List ℕ
sizes_in x = take x.count x.each

-- the values, the first variable's first
abbrev pub values_in : Values → List ℕ
values_in x = take x.count x.each
