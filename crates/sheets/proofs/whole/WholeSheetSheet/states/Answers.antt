use Rattle.std.proofs.Common.{◌≤◌, length, sym, arith}
use Rattle.sheets.proofs.Tables.{table_states}
use Rattle.sheets.proofs.WholeSplits.{table_lawful}
use Rattle.sheets.proofs.whole.WholeSheetSheet.states.Goals as goal

pub returns : goal.returns
returns c =
    let x = c.args.self.now in
    let room : x.states ≤ length x.table = omega (arith, x.full, x.held) in
    let size = table_states x.count x.states x.table room in
    record {
      tells = sym size;
      lawful = table_lawful x.count x.states x.table room x.below x.occurs;
      held = omega (arith, x.held);
    }
