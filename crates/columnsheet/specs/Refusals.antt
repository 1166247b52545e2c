-- The number, the layer and the place of every refusal of this crate.
use Rattle.rules.specs.declared.refusal.Refusal.{Refusal}
use Rattle.columnsheet.specs.declared.fault.ColumnFault.{ColumnFault}
use Rattle.columnsheet.specs.declared.fault.ColumnFault.TheVariants.{TooManyTuples}

abbrev pub column_refusal : ColumnFault → Refusal
column_refusal TooManyTuples = record { number = 14; layer = 3; place = 0 }
