-- The finest partition.
use Rattle.std.specs.Prelude.{ℕ}
use Rattle.std.specs.List.{range_with_len}
use Rattle.sheets.specs.Classes.{Classes}

-- Each of n states is a class of its own.
abbrev pub finest : ℕ → Classes
finest n = record { of = range_with_len 0 n; count = n }
