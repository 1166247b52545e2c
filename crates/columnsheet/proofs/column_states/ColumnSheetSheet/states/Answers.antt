use Rattle.std.proofs.Common.{sym, ◌∙◌}
use Rattle.columnsheet.proofs.OwnTuples.{own_joined, own_states, own_held}
use Rattle.columnsheet.proofs.column_states.ColumnSheetSheet.states.Goals as goal

pub returns : goal.returns
returns c =
    let p = c.args.self.now.parts in
    record { tells = c.states.ensures ∙ sym (own_states p); lawful = own_joined p; held = own_held p }
