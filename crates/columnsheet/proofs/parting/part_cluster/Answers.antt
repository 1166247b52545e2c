use Rattle.std.proofs.Common.{refl, false, arith}
use Rattle.std.proofs.lemmas.Bool.{both_ways}
use Rattle.sheets.specs.Tables.{listed}
use Rattle.columnsheet.proofs.GroupFacts.{grouped_small}
use Rattle.columnsheet.proofs.OwnTuples.{own_few}
use Rattle.columnsheet.proofs.PartLoops.{numbered_some, numbered_is, plain_numberable, said_none, said_skip, said_more}
use Rattle.columnsheet.proofs.parting.part_cluster.Goals as goal
use Rattle.columnsheet.proofs.parting.part_cluster.Goals.{then-is_of, else-is_of}

pub unwrap-count-requires : goal.unwrap-count-requires
unwrap-count-requires g c =
    numbered_some c.args.classes.now c.number_entries.result c.number_entries.new.table c.number_entries.ensures
    (plain_numberable c.args.tuples.now c.args.k c.requires.cluster (g.T.Tests.Of c.args.tests.now c.args.tuples.now c.args.k) (g.T.Tests.truth c.args.tests.now) c.args.classes.now c.requires.all c.requires.small)

pub loop-test-init : goal.loop-test-init
loop-test-init g c =
    said_none c.args.tuples.now c.args.k c.requires.cluster (g.T.Tests.Of c.args.tests.now c.args.tuples.now c.args.k) (g.T.Tests.truth c.args.tests.now) c.args.classes.now c.number_entries.new.table c.unwrap-count.result c.requires.all c.number_entries.auto.table
    (numbered_is c.args.classes.now c.number_entries.result c.number_entries.new.table c.unwrap-count.result c.number_entries.ensures c.unwrap-count.ensures)

pub part_once-count-requires-clause-small : goal.part_once-count-requires-clause-small
part_once-count-requires-clause-small g c =
    λ t h. grouped_small _ _ _ _ (listed c.loop-test.count c.loop-test.classes) (own_few c.args.tuples.now c.args.k c.requires.cluster) c.loop-test.invariant t (omega (arith, c.loop-test.invariant.tuples_are))

pub loop-test-preserved : goal.loop-test-preserved
loop-test-preserved g c =
    let x = c.args.tuples.now in
    let k = c.args.k in
    let Of = g.T.Tests.Of c.args.tests.now x k in
    let truth = g.T.Tests.truth c.args.tests.now in
    let d = listed c.loop-test.count c.loop-test.classes in
    elim c.if-is_of.branch [
      | then-is_of w ↦
          rw (w.classes-is, w.count-is) (said_more x k c.requires.cluster Of truth c.args.classes.now c.loop-test.test d c.loop-test.invariant (listed w.part_once-count.result w.part_once-count.new.classes) (w.if-is_of.ensures.0 refl) w.part_once-count.ensures)
      | else-is_of w ↦
          rw (w.classes-is, w.count-is) (said_skip x k c.requires.cluster Of truth c.args.classes.now c.loop-test.test d c.loop-test.invariant (λ own. both_ways false refl (w.if-is_of.ensures.1 own)))
    ]
