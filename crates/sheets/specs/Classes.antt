-- What a sheet means: a partition of the states into numbered classes.
use Rattle.std.specs.Prelude.{◌≡◌, ℕ, ◌<◌, Bool, cond, ◌&&◌, List, length, Some, None, Option, ◌==◌, nat_lt, slice_index}

-- a class number for each state, and how many classes there are
pub record Classes : Type 0 where
  pub of : List ℕ
  pub count : ℕ

abbrev pub states : Classes → ℕ
states c = length c.of

abbrev pub class : Classes → ℕ → ℕ
class c s = slice_index c.of s

-- the class of a number, or absence if it is no state
abbrev pub class_at : Classes → ℕ → Option ℕ
class_at c s = cond (nat_lt s (states c)) (Some (class c s)) None

-- whether s is a state of the class k
abbrev pub member : Classes → ℕ → ℕ → Bool
member c k s = nat_lt s (states c) && class c s == k

-- every class number is below the count, and every number below the count occurs
pub record Lawful (c : Classes) : Type 0 where
  pub below : (s : ℕ) → s < states c → class c s < c.count
  pub occurs : (k : ℕ) → k < c.count → (s : ℕ) × (s < states c) × (class c s ≡ k)
