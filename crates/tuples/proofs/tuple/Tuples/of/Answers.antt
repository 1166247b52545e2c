use Rattle.std.proofs.Common.{◌<◌, sym, ◌∙◌, inl, inr, arith}
use Rattle.std.proofs.lemmas.Bool.{cases_lt, cond-true, cond-false, and_from, and_right, lt-ltb, le-ltb}
use Rattle.columns.specs.Columns.{product}
use Rattle.clusters.proofs.Own.{own_shape}
use Rattle.tuples.specs.Meaning.{sizes_of, clusters_of, count_of}
use Rattle.tuples.proofs.Widths.{no_tuple}
use Rattle.tuples.proofs.tuple.Tuples.of.Goals as goal

pub returns-then-s-states-clause-tells : goal.returns-then-s-states-clause-tells
returns-then-s-states-clause-tells c =
    let x = c.args.self.now in
    let state : c.args.s < product (sizes_of x) = omega (arith, c.if-s-states.true, c.states.ensures) in
    λ k.
    elim (cases_lt k (count_of x)) [
      | inl lt ↦ c.tuples_in.ensures.tells k ∙ sym (cond-true _ _ _ (and_from _ _ (lt-ltb _ _ state) (lt-ltb _ _ lt)))
      | inr le ↦ c.tuples_in.ensures.tells k ∙ no_tuple (sizes_of x) (clusters_of x) (count_of x) (own_shape x.clusters) k c.args.s le ∙ sym (cond-false _ _ _ (and_right _ _ (le-ltb _ _ le)))
    ]
