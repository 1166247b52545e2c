-- Class numbers and counts put together cluster by cluster.
use Rattle.std.proofs.Common.{◌≡◌, ℕ, ◌+◌, ◌*◌, ◌<◌, ◌≤◌, min, cond, ◌&&◌, ltb, List, length, map, take, get_or, drop, sym, ap, ◌∙◌, subst, add-mul, one-mul, arith}
use Rattle.std.proofs.lemmas.Bool.{and_from, lt-ltb, cond-true}
use Rattle.std.specs.List.{range_with_len}
use Rattle.std.proofs.lemmas.List.{get_or-take, length-take-le}
use Rattle.std.proofs.lemmas.List.FromFn.{fill_by_all}
use Rattle.columns.specs.Columns.{product}
use Rattle.columns.proofs.Digits.{Positive, product_positive}
use Rattle.sheets.specs.Classes.{class}
use Rattle.numbering.proofs.DigitLoops.{Adding, adding_more, adding_small}
use Rattle.tuples.specs.Meaning.{sizes_of, clusters_of, count_of}
use Rattle.tuples.specs.Tables.{LowestTuple}
use Rattle.tuples.specs.Tuples.{width, tuple, part, tuples_before}
use Rattle.tuples.specs.declared.tuple.Tuples.{Tuples}
use Rattle.tuples.proofs.Widths.{before_more, positive_drop}
use Rattle.columnsheet.specs.Joins.{counts_of, cluster_classes}
use Rattle.columnsheet.specs.Kept.{parts_of}
use Rattle.columnsheet.specs.declared.parts.Parts.{Parts}
use Rattle.columnsheet.proofs.JoinFacts.{over_length, over_at, counts_positive}
use Rattle.columnsheet.proofs.OwnTuples.{own_grid, own_some, own_end, own_lawful, own_sized, own_total, own_clusters}

module _ (p : Parts) where
  abbrev sizes : List ℕ
  sizes = counts_of (count_of p.tuples) (parts_of p)

  pub counts_length : length sizes ≡ count_of p.tuples
  counts_length = over_length (count_of p.tuples) (λ k. (parts_of p k).count)

  pub counts_at : (k : ℕ) → k < count_of p.tuples → get_or sizes k 0 ≡ get_or p.counts k 0
  counts_at k h = over_at (count_of p.tuples) (λ k. (parts_of p k).count) k h

  pub sizes_positive : Positive sizes
  sizes_positive =
      let x = p.tuples in
      counts_positive (product (sizes_of x)) (count_of x) (width (sizes_of x) (clusters_of x)) (tuple (sizes_of x) (clusters_of x)) (part (sizes_of x) (clusters_of x)) (own_grid x) (parts_of p) (own_lawful p) (own_sized p) (own_some x)

module _ (x : Tuples) (k : ℕ) (hk : k < count_of x) where
  -- where the tuples of the cluster k stand, by what is told of it
  pub start_is : (from : ℕ) → from ≡ tuples_before (sizes_of x) (clusters_of x) (min k (count_of x)) → from ≡ tuples_before (sizes_of x) (clusters_of x) k
  start_is from told = let low : min k (count_of x) ≡ k = omega arith in told ∙ ap (tuples_before (sizes_of x) (clusters_of x)) low

  -- where they end
  pub end_is : (to : ℕ) → to ≡ tuples_before (sizes_of x) (clusters_of x) (min (k + 1) (count_of x)) → to ≡ tuples_before (sizes_of x) (clusters_of x) (k + 1)
  end_is to told = let low : min (k + 1) (count_of x) ≡ k + 1 = omega arith in told ∙ ap (tuples_before (sizes_of x) (clusters_of x)) low

  -- and where a tuple's class stands
  pub place_at : (t from own : ℕ) → t < width (sizes_of x) (clusters_of x) k → own ≡ t → from ≡ tuples_before (sizes_of x) (clusters_of x) (min k (count_of x)) → from + own < 1024
  place_at t from own lt same told = omega (arith, start_is from told, before_more (sizes_of x) (clusters_of x) k, own_end x k hk)

  -- the tuple of a state, by what is told of it
  pub tuple_is : (s own : ℕ) → s < product (sizes_of x) → own ≡ cond (ltb s (product (sizes_of x)) && ltb k (count_of x)) (tuple (sizes_of x) (clusters_of x) k s) 0 → own ≡ tuple (sizes_of x) (clusters_of x) k s
  tuple_is s own hs told = told ∙ cond-true _ _ _ (and_from _ _ (lt-ltb s _ hs) (lt-ltb k _ hk))

  -- the part of a state, by what is told of its tuple
  pub part_is : (s own r : ℕ) → s < product (sizes_of x) → own ≡ cond (ltb s (product (sizes_of x)) && ltb k (count_of x)) (tuple (sizes_of x) (clusters_of x) k s) 0 → LowestTuple (sizes_of x) (clusters_of x) (count_of x) k own r → r ≡ part (sizes_of x) (clusters_of x) k s
  part_is s own r hs told low = low.found s hk hs (sym (tuple_is s own hs told))

module _ (p : Parts) (m : ℕ) (all : m ≡ count_of p.tuples) where
  -- the counts of the clusters, and nothing behind them
  pub counts_are : take m p.counts ≡ counts_of (count_of p.tuples) (parts_of p)
  counts_are = fill_by_all (λ k. (parts_of p k).count) (take m p.counts) m 0 (length-take-le m p.counts (omega (arith, all, own_clusters p.tuples, p.each))) (λ k h. get_or-take m p.counts k 0 h) ∙ ap (λ n. map (λ k. (parts_of p k).count) (range_with_len 0 n)) all

  -- one cluster more of a state's class number
  module _ (s : ℕ) (hs : s < product (sizes_of p.tuples)) where
    abbrev classes : List ℕ
    classes = cluster_classes (count_of p.tuples) (tuple (sizes_of p.tuples) (clusters_of p.tuples)) (parts_of p) s

    classes_length : length classes ≡ count_of p.tuples
    classes_length = over_length (count_of p.tuples) (λ k. class (parts_of p k) (tuple (sizes_of p.tuples) (clusters_of p.tuples) k s))

    module _ (k n : ℕ) (hk : k < count_of p.tuples) (inv : Adding (sizes p) classes k n) where
      count_here : get_or (take m p.counts) k 0 ≡ get_or (sizes p) k 0
      count_here = ap (λ l. get_or l k 0) counts_are

      pub number_room : n * get_or (take m p.counts) k 0 + get_or (take m p.counts) k 0 ≤ 4096
      number_room =
          let d = get_or (sizes p) k 0 in
          let lt : k < length (sizes p) = omega (arith, counts_length p) in
          let small = adding_small (sizes p) classes k n lt (product_positive (drop (k + 1) (sizes p)) (positive_drop (k + 1) (sizes p) (sizes_positive p))) (own_total p) inv in
          omega (arith, small, add-mul n 1 d, one-mul d, count_here, ap (λ c. n * c) count_here)

      -- by what is told of its tuple t and of the tuple's class
      module _ (t own : ℕ) (tuple_told : t ≡ tuple (sizes_of p.tuples) (clusters_of p.tuples) k s) (class_told : own ≡ class (parts_of p k) t) where
        class_here : get_or classes k 0 ≡ own
        class_here = over_at (count_of p.tuples) (λ k. class (parts_of p k) (tuple (sizes_of p.tuples) (clusters_of p.tuples) k s)) k hk ∙ ap (class (parts_of p k)) (sym tuple_told) ∙ sym class_told

        pub class_below : own < get_or (take m p.counts) k 0
        class_below = omega (arith, class_told, count_here, counts_at p k hk, (own_lawful p k hk).below t (omega (arith, tuple_told, own_sized p k hk, (own_grid p.tuples).below k s hk hs)))

        pub number_more : Adding (sizes p) classes (k + 1) (n * get_or (take m p.counts) k 0 + own)
        number_more =
            subst (λ c. Adding (sizes p) classes (k + 1) (n * c + own)) (sym count_here)
            (subst (λ c. Adding (sizes p) classes (k + 1) (n * get_or (sizes p) k 0 + c)) class_here (adding_more (sizes p) classes k n (omega (arith, counts_length p)) (omega (arith, classes_length)) inv (omega (arith, class_here, count_here, class_below))))
