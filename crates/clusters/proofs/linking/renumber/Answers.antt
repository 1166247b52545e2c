use Rattle.std.proofs.Common.{drop}
use Rattle.clusters.proofs.Fronts.{front_renumbered}
use Rattle.clusters.proofs.linking.renumber.Goals as goal

pub returns : goal.returns
returns c =
    front_renumbered c.args.n c.args.labels.now c.requires.room c.number_entries.new.table (drop c.args.n c.args.labels.now) c.from.result c.number_entries.auto.table
    (rw c.from.ensures (rw c.unwrap.ensures at c.number_entries.ensures).1)
