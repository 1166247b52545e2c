use Rattle.std.proofs.Common.{◌≡◌, ℕ, ◌+◌, ◌<◌, List, length, get_or, take, ◌∙◌, arith, rules}
use Rattle.std.proofs.lemmas.List.{length_push, get_or-take, length-take}
use Rattle.std.proofs.lemmas.Slice.Zip.{zip_turn}
use Rattle.columns.specs.Columns.{product}
use Rattle.clusters.specs.Shapes.{sizes_in, partition}
use Rattle.clusters.specs.declared.cluster.Clusters.{Clusters}
use Rattle.clusters.proofs.Own.{own_shape}
use Rattle.tuples.specs.Tables.{place, Started}
use Rattle.tuples.specs.Tuples.{tuple}
use Rattle.tuples.proofs.Widths.{place_below}
use Rattle.tuples.proofs.LowestTable.{written_more}
use Rattle.tuples.proofs.build.write_state.Goals as goal

-- the sum of the start and the tuple of the cluster k is the tuple's place in the table
place_at : (x : Clusters) (starts tuples : List ℕ) (s count k p q : ℕ) → Started (sizes_in x) (partition x).of x.count starts → s < product (sizes_in x) → count ≡ x.count
    → ((j : ℕ) → get_or tuples j 0 ≡ tuple (sizes_in x) (partition x).of j s) → k < length (take count starts) → p ≡ get_or (take count starts) k 0 → q ≡ get_or tuples k 0
    → (p + q ≡ place (sizes_in x) (partition x).of s k) × (p + q < 1024)
place_at x starts tuples s count k p q started state counted told within first second =
    let lt : k < count = omega (arith, length-take count starts) in
    let same : p + q ≡ place (sizes_in x) (partition x).of s k = omega (arith, first, get_or-take count starts k 0 lt, started.each k (omega arith), second, told k) in
    (same, omega (arith, same, place_below (sizes_in x) (partition x).of x.count (own_shape x) k s (omega arith) state, started.most))

pub overflow_add-start : goal.overflow_add-start
overflow_add-start c =
    let t = zip_turn (take c.count.result c.args.starts.now) c.tuples_in-tuples.result c.loop-start.yielded c.into_iter-start-iterator.result c.loop-start.start-iterator c.next.new.self c.next.result (search rules) (search rules) c.loop-start.yielded_by (c.in-Some.field-0-0, c.in-Some.field-0-1) c.in-Some.is c.next.ensures.steps in
    let p = place_at c.args.clusters.now c.args.starts.now c.tuples_in-tuples.result c.args.s c.count.result _ _ _ c.requires.started c.requires.state c.count.ensures c.tuples_in-tuples.ensures.tells t.0 (t.2 0) (t.3 0) in
    omega (arith, p.1)

pub bounds-lowest-from : goal.bounds-lowest-from
bounds-lowest-from c =
    let t = zip_turn (take c.count.result c.args.starts.now) c.tuples_in-tuples.result c.loop-start.yielded c.into_iter-start-iterator.result c.loop-start.start-iterator c.next.new.self c.next.result (search rules) (search rules) c.loop-start.yielded_by (c.in-Some.field-0-0, c.in-Some.field-0-1) c.in-Some.is c.next.ensures.steps in
    let p = place_at c.args.clusters.now c.args.starts.now c.tuples_in-tuples.result c.args.s c.count.result _ _ _ c.requires.started c.requires.state c.count.ensures c.tuples_in-tuples.ensures.tells t.0 (t.2 0) (t.3 0) in
    omega (arith, p.1, c.loop-start.invariant.2.long, c.requires.long)

pub offset_bounds-lowest-from : goal.offset_bounds-lowest-from
offset_bounds-lowest-from c =
    let below = bounds-lowest-from c in
    omega (arith, c.loop-start.invariant.2.long, c.requires.long)

pub loop-start-preserved : goal.loop-start-preserved
loop-start-preserved c =
    let x = c.args.clusters.now in
    let at = place (sizes_in x) (partition x).of c.args.s in
    let k = length c.loop-start.yielded in
    let t = zip_turn (take c.count.result c.args.starts.now) c.tuples_in-tuples.result c.loop-start.yielded c.into_iter-start-iterator.result c.loop-start.start-iterator c.next.new.self c.next.result (search rules) (search rules) c.loop-start.yielded_by (c.in-Some.field-0-0, c.in-Some.field-0-1) c.in-Some.is c.next.ensures.steps in
    let p = place_at x c.args.starts.now c.tuples_in-tuples.result c.args.s c.count.result _ _ _ c.requires.started c.requires.state c.count.ensures c.tuples_in-tuples.ensures.tells t.0 (t.2 0) (t.3 0) in (
      (tt, tt),
      tt,
      rw (length_push c.loop-start.yielded (c.in-Some.field-0-0, c.in-Some.field-0-1), c.from.ensures ∙ p.0)
          (written_more at k c.args.s c.args.lowest.now c.loop-start.lowest (omega (arith, p.0, p.1, c.loop-start.invariant.2.long, c.requires.long)) c.loop-start.invariant.2),
    )
