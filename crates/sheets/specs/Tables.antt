-- Partitions in fixed tables.
use Rattle.std.specs.Prelude.{ℕ, List, take}
use Rattle.sheets.specs.Classes.{Classes}

-- the first n entries of a table as class numbers
abbrev pub table_classes : ℕ → ℕ → List ℕ → Classes
table_classes count n table = record { of = take n table; count = count }

-- all entries of a table as class numbers
abbrev pub listed : ℕ → List ℕ → Classes
listed count table = record { of = table; count = count }
