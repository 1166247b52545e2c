use Rattle.std.proofs.Common.{arith}
use Rattle.clusters.specs.Shapes.{sizes_in, partition}
use Rattle.clusters.proofs.Own.{own_shape}
use Rattle.tuples.proofs.Widths.{before_most, width_most}
use Rattle.tuples.proofs.build.starts_of.Goals as goal

pub overflow_add-end : goal.overflow_add-end
overflow_add-end c =
    let x = c.args.clusters.now in
    let k = c.loop-k.k in
    let shape = own_shape x in
    omega (arith, before_most (sizes_in x) (partition x).of x.count shape k, width_most (sizes_in x) (partition x).of x.count shape k)
