use Rattle.std.proofs.Common.{◌∙◌}
use Rattle.columnsheet.proofs.SheetFacts.{sheet_table}
use Rattle.columnsheet.proofs.sheet.ColumnSheet.classes.Goals as goal

pub returns : goal.returns
returns c = sheet_table c.args.self.now c.from.result (c.from.ensures ∙ c.states.ensures)
