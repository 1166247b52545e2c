use Rattle.std.proofs.Common.{◌≡◌, ◌+◌, ◌-◌, subst, arith}
use Rattle.clusters.specs.Shapes.{sizes_in, partition}
use Rattle.clusters.proofs.Own.{own_shape}
use Rattle.tuples.proofs.LowestTable.{Lowering, lowering_more, lowering_all}
use Rattle.tuples.proofs.build.lowest_states.Goals as goal

pub loop-s-preserved : goal.loop-s-preserved
loop-s-preserved c =
    let x = c.args.clusters.now in
    let s = c.loop-s.s - 1 in
    let up : c.loop-s.s ≡ s + 1 = omega (arith, c.loop-s-test.true) in
    lowering_more (sizes_in x) (partition x).of x.count (own_shape x) s c.loop-s.lowest c.write_state.new.lowest (omega (arith, c.loop-s.auto.s, c.loop-s-test.true, c.states-s.ensures)) (subst (λ i. Lowering (sizes_in x) (partition x).of x.count i c.loop-s.lowest) up c.loop-s.invariant) c.write_state.ensures

pub returns-clause-least : goal.returns-clause-least
returns-clause-least c =
    let x = c.args.clusters.now in
    let end : c.loop-s.s ≡ 0 = omega (arith, c.loop-s-test.false) in
    lowering_all (sizes_in x) (partition x).of x.count (own_shape x) c.loop-s.lowest (subst (λ i. Lowering (sizes_in x) (partition x).of x.count i c.loop-s.lowest) end c.loop-s.invariant)
