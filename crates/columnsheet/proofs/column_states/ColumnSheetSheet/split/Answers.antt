use Rattle.std.proofs.Common.{refl, subst}
use Rattle.sheets.specs.Splits.{Splittable}
use Rattle.sheets.specs.Tables.{listed}
use Rattle.columnsheet.proofs.SheetFacts.{sheet_split, sheet_into}
use Rattle.columnsheet.proofs.column_states.ColumnSheetSheet.split.Goals as goal

pub returns-clause-gives : goal.returns-clause-gives
returns-clause-gives c =
    let x = c.args.self.now in
    let marks = c.args.marks.now in (
      subst (λ d. Splittable d c.args.class marks) (λ j. listed (x.counted j) (c.classes.ensures j)) (c.if-not-is_splittable.ensures.0 refl),
      sheet_into x.parts marks _ (sheet_split x.parts c.part.new.self marks c.part.ensures.same c.part.ensures.parted),
    )

pub returns-clause-formed : goal.returns-clause-formed
returns-clause-formed c = sheet_split c.args.self.now.parts c.part.new.self c.args.marks.now c.part.ensures.same c.part.ensures.parted
