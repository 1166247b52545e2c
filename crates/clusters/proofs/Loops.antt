-- What the loops keep that give linked variables one label.
use Rattle.std.proofs.Common.{◌≡◌, ℕ, ◌+◌, ◌<◌, ◌≤◌, Bool, true, false, List, map, get_or, arith, below_more}
use Rattle.std.proofs.lemmas.Bool.{both_ways}
use Rattle.clusters.specs.Linked.{alone, along}
use Rattle.clusters.specs.Labels.{relabelled, Labelled, Coarser, OneLabel}
use Rattle.clusters.proofs.Links.{merged_coarser, merged_same, merged_labelled}

-- ── One atom ──

-- The labels were xs and are ys. Those of the variables below v that the atom reads have the label of the first one.
pub record Joining (reads : ℕ → ℕ → Bool) (atom first v : ℕ) (xs ys : List ℕ) : Type 0 where
  pub labelled : Labelled reads ys
  pub coarser : Coarser xs ys
  pub joined : (w : ℕ) → w < v → reads atom w ≡ true → get_or ys w 0 ≡ get_or ys first 0

module _ (reads : ℕ → ℕ → Bool) (atom first v : ℕ) (xs ys : List ℕ) (g : Joining reads atom first v xs ys) where
  pub joining_skip : reads atom v ≡ false → Joining reads atom first (v + 1) xs ys
  joining_skip out = record {
    labelled = g.labelled;
    coarser = g.coarser;
    joined = below_more (λ w. reads atom w ≡ true → get_or ys w 0 ≡ get_or ys first 0) v g.joined (λ e. absurd (both_ways (reads atom v) out e));
  }

  pub joining_more : first ≤ v → v < 12 → reads atom first ≡ true → reads atom v ≡ true
      → Joining reads atom first (v + 1) xs (map (relabelled (get_or ys v 0) (get_or ys first 0)) ys)
  joining_more order within head here =
      let low : first < 12 = omega arith in
      let old = g.labelled in
      let zs : List ℕ = map (relabelled (get_or ys v 0) (get_or ys first 0)) ys in
      let coarser = merged_coarser reads ys v first old within low in
      record {
        labelled = merged_labelled reads ys v first old within low (along atom (alone v) here head);
        coarser = λ a b ha hb e. coarser a b ha hb (g.coarser a b ha hb e);
        joined = below_more (λ w. reads atom w ≡ true → get_or zs w 0 ≡ get_or zs first 0) v
            (λ w h e. coarser w first (omega arith) low (g.joined w h e)) (λ e. merged_same reads ys v first old within low);
      }

-- ── All atoms ──

-- the variables that an atom below a reads have one label
pub record Spanning (reads : ℕ → ℕ → Bool) (n a : ℕ) (xs : List ℕ) : Type 0 where
  pub labelled : Labelled reads xs
  pub one : (b : ℕ) → b < a → OneLabel (reads b) n xs
