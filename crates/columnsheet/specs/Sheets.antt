-- What a column sheet stands for, and what its maker gives.
use Rattle.std.specs.Prelude.{◌≡◌, ℕ, Ok, Err, Result}
use Rattle.columns.specs.Columns.{Columns, product}
use Rattle.sheets.specs.Classes.{Classes}
use Rattle.tuples.specs.Meaning.{sizes_of, clusters_of, count_of}
use Rattle.tuples.specs.Tuples.{tuple}
use Rattle.columnsheet.specs.Firsts.{FirstColumns, HasTooManyTuples}
use Rattle.columnsheet.specs.Joins.{joined}
use Rattle.columnsheet.specs.Kept.{parts_of}
use Rattle.columnsheet.specs.declared.fault.ColumnFault.{ColumnFault}
use Rattle.columnsheet.specs.declared.fault.ColumnFault.TheVariants.{TooManyTuples}
use Rattle.columnsheet.specs.declared.sheet.ColumnSheet.{ColumnSheet}

-- the partition of each cluster's tuples
abbrev pub cluster_parts : ColumnSheet → ℕ → Classes
cluster_parts x = parts_of x.parts

-- the partition of the states
abbrev pub sheet_classes : ColumnSheet → Classes
sheet_classes x = joined (product (sizes_of x.parts.tuples)) (count_of x.parts.tuples) (tuple (sizes_of x.parts.tuples) (clusters_of x.parts.tuples)) (cluster_parts x)

-- a source whose clusters have at most 1024 tuples in all has a column sheet, and any other is refused
abbrev pub ColumnsGive : Columns → Result ColumnSheet ColumnFault → Type 0
ColumnsGive c (Ok x) = FirstColumns c (sheet_classes x)
ColumnsGive c (Err fault) = (fault ≡ TooManyTuples) × HasTooManyTuples c
