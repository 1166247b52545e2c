-- The states of some variables are the product of their clusters' tuples.
use Rattle.std.proofs.Common.{◌≡◌, ℕ, suc, ◌+◌, ◌-◌, ◌<◌, ◌≤◌, true, List, [], ◌∷◌, length, get_or, sym, ap, ◌∙◌, subst, arith}
use Rattle.columns.specs.Columns.{product, number, values, value, fit}
use Rattle.columns.proofs.Digits.{Positive, number_below, length_values, values_number, number_values, values_fit}
use Rattle.clusters.specs.Shapes.{Shape}
use Rattle.tuples.specs.Tuples.{within, width, tuple, only, part}
use Rattle.tuples.proofs.Grids.{Grid}
use Rattle.tuples.proofs.Within.{within_fit, within_positive, one_list, only_most, only_fit, only_in, only_only, only_same, only_at}
use Rattle.tuples.proofs.Mixed.{mix, mix_fit, mix_in, mix_out, mix_number, spread}

pub wide_positive : (ds : List ℕ) → ((v : ℕ) → v < length ds → 2 ≤ get_or ds v 0) → Positive ds
wide_positive [] h = tt
wide_positive (d ∷ ds) h = (omega (arith, h 0 (omega arith)), wide_positive ds (λ v lt. h (suc v) (omega arith)))

module _ (ds cs : List ℕ) (m : ℕ) (shape : Shape ds cs m) where
  pub shape_positive : Positive ds
  shape_positive = wide_positive ds shape.wide

  module _ (s : ℕ) (lt : s < product ds) where
    fits : fit ds (values ds s) ≡ true
    fits = values_fit ds s shape_positive lt

    -- what has the values of s at the variables of k has its tuple
    tuple_of : (k : ℕ) (vs : List ℕ) → fit ds vs ≡ true → within k cs vs ≡ within k cs (values ds s) → tuple ds cs k (number ds vs) ≡ tuple ds cs k s
    tuple_of k vs h e = ap (λ l. number (within k cs ds) (within k cs l)) (values_number ds vs h) ∙ ap (number (within k cs ds)) e

  same_within : (k s u : ℕ) → s < product ds → u < product ds → tuple ds cs k s ≡ tuple ds cs k u → within k cs (values ds s) ≡ within k cs (values ds u)
  same_within k s u a b e =
      let back : (t : ℕ) → t < product ds → values (within k cs ds) (tuple ds cs k t) ≡ within k cs (values ds t) = λ t lt. values_number (within k cs ds) (within k cs (values ds t)) (within_fit k cs ds (values ds t) (fits t lt)) in
      sym (back s a) ∙ ap (values (within k cs ds)) e ∙ back u b

  part_values : (k s : ℕ) → s < product ds → values ds (part ds cs k s) ≡ only k cs (values ds s)
  part_values k s lt = values_number ds (only k cs (values ds s)) (only_fit k ds cs (values ds s) shape.each (fits s lt))

  long : (s : ℕ) → length (values ds s) ≡ length cs
  long s = length_values ds s ∙ sym shape.each

  -- s with the tuple of u in the cluster k
  module _ (k s u : ℕ) (a : s < product ds) (b : u < product ds) where
    mixed_fit : fit ds (mix k cs (values ds s) (values ds u)) ≡ true
    mixed_fit = mix_fit k ds cs (values ds s) (values ds u) shape.each (fits s a) (fits u b)

    mixed_number : number ds (mix k cs (values ds s) (values ds u)) ≡ s - part ds cs k s + part ds cs k u
    mixed_number =
        let sum = mix_number k ds cs (values ds s) (values ds u) shape.each (length_values ds s) (length_values ds u) in
        omega (arith, sum, only_most k ds cs (values ds s), number_values ds s shape_positive a)

  met : (k t : ℕ) → t < width ds cs k → (s : ℕ) × (s < product ds) × (tuple ds cs k s ≡ t)
  met k t lt =
      let positive = within_positive k cs ds shape_positive in
      let r = spread k ds cs (values (within k cs ds) t) shape.each shape_positive (values_fit (within k cs ds) t positive lt) in
      (number ds r.all, number_below ds r.all r.fits, ap (λ l. number (within k cs ds) (within k cs l)) (values_number ds r.all r.fits) ∙ ap (number (within k cs ds)) r.at ∙ number_values (within k cs ds) t positive lt)

  pub grid : Grid (product ds) m (width ds cs) (tuple ds cs) (part ds cs)
  grid =
      record {
        below = λ k s in_m lt. number_below (within k cs ds) (within k cs (values ds s)) (within_fit k cs ds (values ds s) (fits s lt));
        met = λ k t in_m lt. met k t lt;
        one = λ s u a b same. sym (number_values ds s shape_positive a) ∙ ap (number ds) (one_list m cs (values ds s) (values ds u) (long s) (long u) (λ v lt. shape.below v (omega (arith, shape.each))) (λ k lt. same_within k s u a b (same k lt))) ∙ number_values ds u shape_positive b;
        part_most = λ k s lt. omega (arith, only_most k ds cs (values ds s), number_values ds s shape_positive lt);
        part_same = λ k s u in_m a b e. ap (number ds) (only_same k cs (values ds s) (values ds u) (long s ∙ sym (long u)) (same_within k s u a b e));
        part_tuple = λ k s in_m lt. tuple_of s lt k (only k cs (values ds s)) (only_fit k ds cs (values ds s) shape.each (fits s lt)) (only_in k cs (values ds s));
        part_part = λ k s in_m lt. ap (λ l. number ds (only k cs l)) (part_values k s lt) ∙ ap (number ds) (only_only k cs (values ds s));
        mixed_below = λ k s u in_m a b. subst (λ x. x < product ds) (mixed_number k s u a b) (number_below ds (mix k cs (values ds s) (values ds u)) (mixed_fit k s u a b));
        mixed_in = λ k s u in_m a b. subst (λ x. tuple ds cs k x ≡ tuple ds cs k u) (mixed_number k s u a b) (tuple_of u b k (mix k cs (values ds s) (values ds u)) (mixed_fit k s u a b) (mix_in k cs (values ds s) (values ds u) (long s) (long u)));
        mixed_out = λ k j s u in_m in_j other a b. subst (λ x. tuple ds cs j x ≡ tuple ds cs j s) (mixed_number k s u a b) (tuple_of s a j (mix k cs (values ds s) (values ds u)) (mixed_fit k s u a b) (mix_out k j cs (values ds s) (values ds u) other (long s) (long u)));
      }

pub part_below : (ds cs : List ℕ) (m k s : ℕ) → Shape ds cs m → s < product ds → part ds cs k s < product ds
part_below ds cs m k s shape lt = number_below ds (only k cs (values ds s)) (only_fit k ds cs (values ds s) shape.each (fits ds cs m shape s lt))

pub part_value : (ds cs : List ℕ) (m k s v : ℕ) → Shape ds cs m → s < product ds → v < length ds → get_or cs v 0 ≡ k → value ds (part ds cs k s) v ≡ value ds s v
part_value ds cs m k s v shape lt in-ds e = ap (λ l. get_or l v 0) (part_values ds cs m shape k s lt) ∙ only_at k cs (values ds s) v (omega (arith, shape.each)) e
