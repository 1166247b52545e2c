use Rattle.std.proofs.Common.{◌≡◌, ℕ, ◌+◌, ◌*◌, ◌/◌, ◌<◌, length, get_or, ◌∙◌, arith, rules}
use Rattle.std.proofs.lemmas.List.{length_push}
use Rattle.std.proofs.lemmas.Slice.Zip.{zip_turn}
use Rattle.clusters.specs.Shapes.{sizes_in, partition}
use Rattle.clusters.proofs.Own.{own_shape}
use Rattle.tuples.proofs.Gathering.{turn, turn_wide, turn_small}
use Rattle.tuples.proofs.state.tuples_in.Goals as goal

-- the pair of this turn is the size and the cluster of the next variable
at_turn : (c : goal.After-from-k) → let x = c.args.clusters.now in let v = length c.loop-size.yielded in (v < length (sizes_in x)) × (v < length (partition x).of) × ((d : ℕ) → c.in-Some.field-0-0.now ≡ get_or (sizes_in x) v d) × ((d : ℕ) → c.in-Some.field-0-1.now ≡ get_or (partition x).of v d)
at_turn c =
    let x = c.args.clusters.now in
    zip_turn (sizes_in x) (partition x).of c.loop-size.yielded c.into_iter-size-iterator.result c.loop-size.size-iterator c.next.new.self c.next.result (search rules) (search rules) c.loop-size.yielded_by (c.in-Some.field-0-0, c.in-Some.field-0-1) c.in-Some.is c.next.ensures.steps

positive : (c : goal.After-from-k) → 0 < c.loop-size.w / c.in-Some.field-0-0.now
positive c =
    let x = c.args.clusters.now in
    let t = at_turn c in
    turn_wide (sizes_in x) (partition x).of x.count (own_shape x) c.args.s c.loop-size.tuples (length c.loop-size.yielded) c.loop-size.w c.loop-size.rest c.in-Some.field-0-0.now c.from-k.result t.0 (t.2 0) (c.from-k.ensures ∙ t.3 0) c.loop-size.invariant.2

small : (c : goal.After-from-k) → get_or c.loop-size.tuples c.from-k.result 0 * c.in-Some.field-0-0.now + c.loop-size.rest / (c.loop-size.w / c.in-Some.field-0-0.now) < 4096
small c =
    let x = c.args.clusters.now in
    let t = at_turn c in
    turn_small (sizes_in x) (partition x).of x.count (own_shape x) c.args.s c.loop-size.tuples (length c.loop-size.yielded) c.loop-size.w c.loop-size.rest c.in-Some.field-0-0.now c.from-k.result t.0 (t.2 0) (c.from-k.ensures ∙ t.3 0) c.loop-size.invariant.2 c.requires

pub nonzero_div-tuples : goal.nonzero_div-tuples
nonzero_div-tuples c = positive c

pub nonzero_rem-rest : goal.nonzero_rem-rest
nonzero_rem-rest c = positive c

pub overflow_mul-tuples : goal.overflow_mul-tuples
overflow_mul-tuples c = omega (arith, small c)

pub overflow_add-tuples : goal.overflow_add-tuples
overflow_add-tuples c = omega (arith, small c)

pub loop-size-preserved : goal.loop-size-preserved
loop-size-preserved c =
    let x = c.args.clusters.now in
    let t = at_turn c in (
      (tt, tt),
      tt,
      rw (length_push c.loop-size.yielded (c.in-Some.field-0-0, c.in-Some.field-0-1))
          (turn (sizes_in x) (partition x).of x.count (own_shape x) c.args.s c.loop-size.tuples (length c.loop-size.yielded) c.loop-size.w c.loop-size.rest c.in-Some.field-0-0.now c.from-k.result t.0 (t.2 0) (c.from-k.ensures ∙ t.3 0) c.loop-size.invariant.2),
    )
