use Rattle.std.proofs.Common.{◌≡◌, ◌-◌, get_or, take, drop, rules, arith}
use Rattle.tuples.proofs.Lookups.{in_order, in_table, looked_up}
use Rattle.tuples.proofs.tuple.Tuples.lowest.Goals as goal

pub offset_bounds-self-start : goal.offset_bounds-self-start
offset_bounds-self-start c =
    let order = in_order c.args.self.now c.args.k c.saturating_add.result c.start.result c.start-2.result c.saturating_add.ensures c.start.ensures.tells c.start-2.ensures.tells in
    let most = in_table c.args.self.now c.args.k c.saturating_add.result c.start.result c.start-2.result c.saturating_add.ensures c.start.ensures.tells c.start-2.ensures.tells in
    omega arith

pub slice_bounds-get-count : goal.slice_bounds-get-count
slice_bounds-get-count c = in_order c.args.self.now c.args.k c.saturating_add.result c.start.result c.start-2.result c.saturating_add.ensures c.start.ensures.tells c.start-2.ensures.tells

pub slice_bounds-get-start : goal.slice_bounds-get-start
slice_bounds-get-start c =
    let order = in_order c.args.self.now c.args.k c.saturating_add.result c.start.result c.start-2.result c.saturating_add.ensures c.start.ensures.tells c.start-2.ensures.tells in
    search rules

pub slice_bounds-get-end : goal.slice_bounds-get-end
slice_bounds-get-end c =
    let most = in_table c.args.self.now c.args.k c.saturating_add.result c.start.result c.start-2.result c.saturating_add.ensures c.start.ensures.tells c.start-2.ensures.tells in
    search rules

pub returns : goal.returns
returns c =
    let told = looked_up c.args.self.now c.args.k c.saturating_add.result c.start.result c.start-2.result c.saturating_add.ensures c.start.ensures.tells c.start-2.ensures.tells c.args.t in
    let e : c.unwrap_or.result ≡ get_or (take (c.start-2.result - c.start.result) (drop c.start.result c.args.self.now.lowest)) c.args.t 0 = search rules in
    rw e told
