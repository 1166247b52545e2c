-- The number, the layer and the place of every refusal of this crate.
use Rattle.rules.specs.declared.refusal.Refusal.{Refusal}
use Rattle.sheets.specs.declared.sheet.SheetFault.{SheetFault}
use Rattle.sheets.specs.declared.sheet.SheetFault.TheVariants.{BadMarks}

abbrev pub sheet_refusal : SheetFault → Refusal
sheet_refusal BadMarks = record { number = 18; layer = 3; place = 0 }
