use Rattle.std.proofs.Common.{arith}
use Rattle.columnsheet.proofs.PartLoops.{numbered_some, numbered_is, appended_numberable, appended_grouped}
use Rattle.columnsheet.proofs.parting.part_once.Goals as goal

pub unwrap-requires : goal.unwrap-requires
unwrap-requires g c =
    numbered_some c.loop-t.classes c.number_entries.result c.number_entries.new.table c.number_entries.ensures
    (appended_numberable c.args.tuples.now c.args.k c.requires.cluster (g.T.Tests.truth c.args.tests.now c.args.test) c.args.classes.now c.loop-t.classes c.loop-t.t c.requires.all (omega arith) (omega arith) c.loop-t.invariant c.requires.small)

pub returns : goal.returns
returns g c =
    appended_grouped c.args.tuples.now c.args.k c.requires.cluster (g.T.Tests.truth c.args.tests.now c.args.test) c.args.classes.now c.loop-t.classes c.loop-t.t c.requires.all (omega arith) (omega arith) c.loop-t.invariant c.number_entries.new.table c.unwrap.result (omega arith)
    (numbered_is c.loop-t.classes c.number_entries.result c.number_entries.new.table c.unwrap.result c.number_entries.ensures c.unwrap.ensures)
