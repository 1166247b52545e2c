-- What is looked up in a table of tuples.
use Rattle.std.proofs.Common.{◌≡◌, ℕ, ◌+◌, ◌-◌, ◌<◌, ◌≤◌, min, get_or, take, drop, ap, ◌∙◌, inl, inr, arith}
use Rattle.std.proofs.lemmas.Bool.{cases_lt}
use Rattle.std.proofs.lemmas.List.{get_or_past, get_or-take, get_or-drop, length-take}
use Rattle.clusters.proofs.Own.{own_shape}
use Rattle.tuples.specs.Meaning.{sizes_of, clusters_of, count_of}
use Rattle.tuples.specs.Tables.{LowestTuple}
use Rattle.tuples.specs.Tuples.{width, tuples_before}
use Rattle.tuples.specs.declared.tuple.Tuples.{Tuples}
use Rattle.tuples.proofs.StateGrid.{grid}
use Rattle.tuples.proofs.Widths.{before_more, before_rises}
use Rattle.tuples.proofs.LowestTable.{lowest_at}

-- the tuples of the cluster k stand from `from` to `to`; those of a number that is no cluster nowhere
module _ (x : Tuples) (k next from to : ℕ) (after : next ≡ min (k + 1) 18446744073709551615) (first : from ≡ tuples_before (sizes_of x) (clusters_of x) (min k (count_of x)))
    (ends : to ≡ tuples_before (sizes_of x) (clusters_of x) (min next (count_of x))) where
  last : to ≡ tuples_before (sizes_of x) (clusters_of x) (min (k + 1) (count_of x))
  last =
      let shape = own_shape x.clusters in
      let e : min next (count_of x) ≡ min (k + 1) (count_of x) = omega (arith, shape.fewer, shape.few) in
      ends ∙ ap (tuples_before (sizes_of x) (clusters_of x)) e

  pub in_order : from ≤ to
  in_order = omega (arith, first, last, before_rises (sizes_of x) (clusters_of x) (min k (count_of x)) (min (k + 1) (count_of x)) (omega arith))

  pub in_table : to ≤ 1024
  in_table = omega (arith, last, before_rises (sizes_of x) (clusters_of x) (min (k + 1) (count_of x)) (count_of x) (omega arith), x.most)

  from_is : k < count_of x → from ≡ tuples_before (sizes_of x) (clusters_of x) k
  from_is lt = let e : min k (count_of x) ≡ k = omega arith in first ∙ ap (tuples_before (sizes_of x) (clusters_of x)) e

  to_is : k < count_of x → to ≡ from + width (sizes_of x) (clusters_of x) k
  to_is lt =
      let e : min (k + 1) (count_of x) ≡ k + 1 = omega arith in
      omega (arith, last, ap (tuples_before (sizes_of x) (clusters_of x)) e, before_more (sizes_of x) (clusters_of x) k, from_is lt)

  empty : count_of x ≤ k → to ≡ from
  empty le = let e : min k (count_of x) ≡ min (k + 1) (count_of x) = omega arith in omega (arith, first, last, ap (tuples_before (sizes_of x) (clusters_of x)) e)

  pub looked_up : (t : ℕ) → LowestTuple (sizes_of x) (clusters_of x) (count_of x) k t (get_or (take (to - from) (drop from x.lowest)) t 0)
  looked_up t =
      elim (cases_lt t (to - from)) [
        | inl lt ↦
            let here = get_or-take (to - from) (drop from x.lowest) t 0 lt ∙ get_or-drop from x.lowest t 0 in
            record {
              found = λ s in_m state e. here ∙ ap (λ p. get_or x.lowest p 0) (omega (arith, from_is in_m, e)) ∙ lowest_at (sizes_of x) (clusters_of x) (count_of x) x.lowest x.least k s in_m state;
              none = λ h. elim (cases_lt k (count_of x)) [ inl in_m ↦ absurd (h in_m (omega (arith, to_is in_m))) | inr le ↦ absurd (omega (arith, empty le)) ];
            }
        | inr le ↦
            record {
              found = λ s in_m state e. absurd (omega (arith, to_is in_m, e, (grid (sizes_of x) (clusters_of x) (count_of x) (own_shape x.clusters)).below k s in_m state));
              none = λ h. get_or_past (take (to - from) (drop from x.lowest)) t 0 (omega (arith, length-take (to - from) (drop from x.lowest)));
            }
      ]
