-- Tuples of values: what the variables of one cluster have in a state, numbered like states.
use Rattle.std.specs.Prelude.{ℕ, zero, suc, ◌+◌, cond, List, [], ◌∷◌, ◌==◌}
use Rattle.columns.specs.Columns.{product, number, values}

-- In all of these ds has the size of each variable, and cs its cluster.

-- the entries of xs that stand at the variables of the cluster k
abbrev pub within : ℕ → List ℕ → List ℕ → List ℕ
within k [] xs = []
within k (c ∷ cs) [] = []
within k (c ∷ cs) (x ∷ xs) = cond (c == k) (x ∷ within k cs xs) (within k cs xs)

-- how many tuples the cluster k has
abbrev pub width : List ℕ → List ℕ → ℕ → ℕ
width ds cs k = product (within k cs ds)

-- the number of the tuple that the cluster k has in the state s
abbrev pub tuple : List ℕ → List ℕ → ℕ → ℕ → ℕ
tuple ds cs k s = number (within k cs ds) (within k cs (values ds s))

-- how many tuples the first m clusters have; the tuples of the cluster m stand from there on
abbrev pub tuples_before : List ℕ → List ℕ → ℕ → ℕ
tuples_before ds cs zero = 0
tuples_before ds cs (suc m) = tuples_before ds cs m + width ds cs m

-- xs at the variables of the cluster k, and 0 elsewhere
abbrev pub only : ℕ → List ℕ → List ℕ → List ℕ
only k [] xs = []
only k (c ∷ cs) [] = []
only k (c ∷ cs) (x ∷ xs) = cond (c == k) x 0 ∷ only k cs xs

-- the state with the values of s at the variables of the cluster k, and 0 elsewhere: the lowest state with that tuple
abbrev pub part : List ℕ → List ℕ → ℕ → ℕ → ℕ
part ds cs k s = number ds (only k cs (values ds s))
