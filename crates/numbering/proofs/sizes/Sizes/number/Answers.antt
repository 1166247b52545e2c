use Rattle.std.proofs.Common.{◌≡◌, ℕ, ◌+◌, ◌*◌, ◌<◌, ◌≤◌, false, List, length, get_or, sym, ap, ◌∙◌, subst, add-mul, one-mul, arith}
use Rattle.std.proofs.lemmas.Bool.{cond-false}
use Rattle.std.proofs.lemmas.List.{length_push}
use Rattle.std.proofs.lemmas.Slice.Zip.{zip_turn, zip_end}
use Rattle.columns.specs.Columns.{values, fit}
use Rattle.columns.proofs.Digits.{values_number, fit_length}
use Rattle.numbering.specs.Numbers.{sizes_in}
use Rattle.numbering.specs.declared.sizes.Sizes.{Sizes}
use Rattle.numbering.proofs.DigitLoops.{Adding, adding_more, adding_stop, adding_small, adding_all}
use Rattle.numbering.proofs.OwnSizes.{own_most, own_product}
use Rattle.numbering.proofs.sizes.Sizes.number.Goals as goal

pub returns-then-given-sizes-clause-tells : goal.returns-then-given-sizes-clause-tells
returns-then-given-sizes-clause-tells c =
    sym (cond-false _ _ _ (fit_length (sizes_in c.args.self.now) c.args.given.now (λ e. c.if-given-sizes.true (sym (ap length c.as_slice-sizes.ensures ∙ e)))))

-- the i-th value v stands beside the size d
module _ (x : Sizes) (vs : List ℕ) (i n v d : ℕ) (turn : (i < length vs) × (i < length (sizes_in x)) × ((e : ℕ) → v ≡ get_or vs i e) × ((e : ℕ) → d ≡ get_or (sizes_in x) i e)) (m : Adding (sizes_in x) vs i n) where
  stops : d ≤ v → fit (sizes_in x) vs ≡ false
  stops le = adding_stop (sizes_in x) vs i n turn.1 turn.0 m (omega (arith, turn.2 0, turn.3 0))

  small : v < d → n * d + v < 4096
  small lt =
      omega (arith, lt, subst (λ k. (n + 1) * k ≤ 4096) (sym (turn.3 0)) (adding_small (sizes_in x) vs i n turn.1 (own_product x (i + 1)) (own_most x) m), add-mul n 1 d, one-mul d)

  goes_on : v < d → Adding (sizes_in x) vs (i + 1) (n * d + v)
  goes_on lt = rw (turn.2 0, turn.3 0) (adding_more (sizes_in x) vs i n turn.1 turn.0 m (omega (arith, lt, turn.2 0, turn.3 0)))

pub returns-then-value-size-clause-tells : goal.returns-then-value-size-clause-tells
returns-then-value-size-clause-tells c =
    let x = c.args.self.now in
    let turn = zip_turn c.args.given.now (sizes_in x) c.loop-value.yielded c.into_iter-value-iterator.result c.loop-value.value-iterator c.next.new.self c.next.result (cc) (cc) c.loop-value.yielded_by (c.in-Some.value, c.in-Some.size) c.in-Some.is c.next.ensures.steps in
    sym (cond-false _ _ _ (stops x c.args.given.now (length c.loop-value.yielded) c.loop-value.n c.in-Some.value.now c.in-Some.size.now turn c.loop-value.invariant c.if-value-size.true))

pub overflow_mul-n : goal.overflow_mul-n
overflow_mul-n c =
    let x = c.args.self.now in
    let turn = zip_turn c.args.given.now (sizes_in x) c.loop-value.yielded c.into_iter-value-iterator.result c.loop-value.value-iterator c.next.new.self c.next.result (cc) (cc) c.loop-value.yielded_by (c.in-Some.value, c.in-Some.size) c.in-Some.is c.next.ensures.steps in
    omega (arith, small x c.args.given.now (length c.loop-value.yielded) c.loop-value.n c.in-Some.value.now c.in-Some.size.now turn c.loop-value.invariant c.if-value-size.false)

pub overflow_add-n : goal.overflow_add-n
overflow_add-n c =
    let x = c.args.self.now in
    let turn = zip_turn c.args.given.now (sizes_in x) c.loop-value.yielded c.into_iter-value-iterator.result c.loop-value.value-iterator c.next.new.self c.next.result (cc) (cc) c.loop-value.yielded_by (c.in-Some.value, c.in-Some.size) c.in-Some.is c.next.ensures.steps in
    omega (arith, small x c.args.given.now (length c.loop-value.yielded) c.loop-value.n c.in-Some.value.now c.in-Some.size.now turn c.loop-value.invariant c.if-value-size.false)

pub loop-value-preserved : goal.loop-value-preserved
loop-value-preserved c =
    let x = c.args.self.now in
    let turn = zip_turn c.args.given.now (sizes_in x) c.loop-value.yielded c.into_iter-value-iterator.result c.loop-value.value-iterator c.next.new.self c.next.result (cc) (cc) c.loop-value.yielded_by (c.in-Some.value, c.in-Some.size) c.in-Some.is c.next.ensures.steps in
    rw length_push (goes_on x c.args.given.now (length c.loop-value.yielded) c.loop-value.n c.in-Some.value.now c.in-Some.size.now turn c.loop-value.invariant c.if-value-size.false)

pub returns-clause-back : goal.returns-clause-back
returns-clause-back c =
    let x = c.args.self.now in
    let given = c.args.given.now in
    let end : length c.loop-value.yielded ≡ length given = omega (arith, zip_end given (sizes_in x) c.loop-value.yielded c.into_iter-value-iterator.result c.loop-value.value-iterator c.next.new.self c.next.result (cc) (cc) c.loop-value.yielded_by c.in-None.is c.next.ensures.steps, c.if-given-sizes.false, ap length c.as_slice-sizes.ensures) in
    let all = adding_all (sizes_in x) given (length c.loop-value.yielded) c.loop-value.n (omega (arith, c.if-given-sizes.false, ap length c.as_slice-sizes.ensures, end)) (omega (arith, end)) c.loop-value.invariant in
    ap (values (sizes_in x)) all.0 ∙ values_number (sizes_in x) given all.1
