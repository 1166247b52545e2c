-- The classes of states that the classes of their tuples make.
use Rattle.std.specs.Prelude.{ℕ, Bool, ◌&&◌, List, map, nat_eq, nat_lt}
use Rattle.std.specs.List.{range_with_len}
use Rattle.columns.specs.Columns.{product, number, each_below}
use Rattle.sheets.specs.Classes.{Classes, states, class}
use Rattle.sheets.specs.Structure.{any}

-- There are m clusters: d k is a partition of the tuples of the cluster k, and tuple k s the tuple that k has in the state s.

-- how many classes each cluster has
abbrev pub counts_of : ℕ → (ℕ → Classes) → List ℕ
counts_of m d = map (λ k. (d k).count) (range_with_len 0 m)

-- the class that each cluster has in the state s
abbrev pub cluster_classes : ℕ → (ℕ → ℕ → ℕ) → (ℕ → Classes) → ℕ → List ℕ
cluster_classes m tuple d s = map (λ k. class (d k) (tuple k s)) (range_with_len 0 m)

-- A state's class number is made of its cluster classes in the same way as a state's number of its values, over the class counts.
abbrev pub joined : ℕ → ℕ → (ℕ → ℕ → ℕ) → (ℕ → Classes) → Classes
joined n m tuple d = record {
  of = map (λ s. number (counts_of m d) (cluster_classes m tuple d s)) (range_with_len 0 n);
  count = product (counts_of m d);
}

-- that a partition is lawful, as a test: class numbers are below the count, and each number below it occurs
abbrev pub lawful_test : Classes → Bool
lawful_test d = each_below (states d) (λ t. nat_lt (class d t) d.count) && each_below d.count (λ c. any (states d) (λ t. nat_eq (class d t) c))

-- the partitions of the first m clusters are lawful
abbrev pub all_lawful : ℕ → (ℕ → Classes) → Bool
all_lawful m d = each_below m (λ k. lawful_test (d k))
