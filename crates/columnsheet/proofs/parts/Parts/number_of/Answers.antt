use Rattle.std.proofs.Common.{◌<◌, get_or, arith}
use Rattle.tuples.specs.Meaning.{count_of}
use Rattle.columnsheet.proofs.OwnTuples.{own_clusters, own_grid}
use Rattle.columnsheet.proofs.JoinLoops.{tuple_is, class_below, number_room, number_more}
use Rattle.columnsheet.proofs.parts.Parts.number_of.Goals as goal

pub overflow_mul-number : goal.overflow_mul-number
overflow_mul-number c =
    let p = c.args.self.now in
    omega (arith, number_room p c.count.result c.count.ensures c.args.s c.requires c.loop-k.k c.loop-k.number (omega (arith, c.count.ensures, own_clusters p.tuples, p.each)) c.loop-k.invariant)

pub class-requires-clause-tuple : goal.class-requires-clause-tuple
class-requires-clause-tuple c =
    let x = c.args.self.now.tuples in
    let k = c.loop-k.k in
    let hk : k < count_of x = omega (arith, c.count.ensures, own_clusters x, c.args.self.now.each) in
    omega (arith, tuple_is x k hk c.args.s (get_or c.of-own.result k 0) c.requires (c.of-own.ensures.tells k), (own_grid x).below k c.args.s hk c.requires)

pub overflow_add-number : goal.overflow_add-number
overflow_add-number c =
    let p = c.args.self.now in
    let k = c.loop-k.k in
    let hk : k < count_of p.tuples = omega (arith, c.count.ensures, own_clusters p.tuples, p.each) in
    omega (
      arith,
      number_room p c.count.result c.count.ensures c.args.s c.requires k c.loop-k.number hk c.loop-k.invariant,
      class_below p c.count.result c.count.ensures c.args.s c.requires k c.loop-k.number hk c.loop-k.invariant _ c.class.result (tuple_is p.tuples k hk c.args.s (get_or c.of-own.result k 0) c.requires (c.of-own.ensures.tells k)) c.class.ensures,
    )

pub loop-k-preserved : goal.loop-k-preserved
loop-k-preserved c =
    let p = c.args.self.now in
    let k = c.loop-k.k in
    let hk : k < count_of p.tuples = omega (arith, c.count.ensures, own_clusters p.tuples, p.each) in
    number_more p c.count.result c.count.ensures c.args.s c.requires k c.loop-k.number hk c.loop-k.invariant _ c.class.result (tuple_is p.tuples k hk c.args.s (get_or c.of-own.result k 0) c.requires (c.of-own.ensures.tells k)) c.class.ensures
