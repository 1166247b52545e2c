use Rattle.std.proofs.Common.{sym}
use Rattle.sheets.proofs.Partitions.{partition_states, partition_held, partition_few, partition_below}
use Rattle.sheets.proofs.members.Members.states.Goals as goal

pub returns : goal.returns
returns c =
    let x = c.args.self.now in
    record { tells = sym (partition_states x); held = partition_held x; few = partition_few x; below = partition_below x }
