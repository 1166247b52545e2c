-- The steps of making and splitting a whole-state sheet, on its table.
use Rattle.std.specs.Prelude.{◌≡◌, ℕ, ◌<◌, ◌≤◌, Bool, cond, ◌↔◌, List, length, Some, None, Option, ◌==◌, slice_index}

-- 1 for true
abbrev pub bit : Bool → ℕ
bit b = cond b 1 0

-- the first n entries with the mark 2 become `to`, and the others stay
abbrev pub Moved : ℕ → ℕ → List ℕ → List ℕ → List ℕ → Type 0
Moved to n marks xs ys = (s : ℕ) → s < n → slice_index ys s ≡ cond (slice_index marks s == 2) to (slice_index xs s)

-- the first n entries of xs have the numbers below `count` in ys, in the order of their first places
pub record Renumbered (n : ℕ) (xs ys : List ℕ) (count : ℕ) : Type 0 where
  pub few : count ≤ n
  pub together : (s t : ℕ) → s < n → t < n → (slice_index ys s ≡ slice_index ys t) ↔ (slice_index xs s ≡ slice_index xs t)
  pub below : (s : ℕ) → s < n → slice_index ys s < count
  pub occurs : (k : ℕ) → k < count → (s : ℕ) × (s < n) × (slice_index ys s ≡ k)
  pub numbered : (s k : ℕ) → s < n → k < slice_index ys s → (t : ℕ) × (t < s) × (slice_index ys t ≡ k)

-- the first n entries of xs were moved to `to` by the marks, and then numbered in ys
pub record MovedAnew (to n : ℕ) (marks xs ys : List ℕ) (count : ℕ) : Type 0 where
  pub moved : List ℕ
  pub long : length moved ≡ n
  pub moves : Moved to n marks xs moved
  pub anew : Renumbered n moved ys count

-- a table that can be numbered: at most 4096 entries, each below 4096
pub record Numberable (xs : List ℕ) : Type 0 where
  pub few : length xs ≤ 4096
  pub small : (s : ℕ) → s < length xs → slice_index xs s < 4096

-- the numbers that the entries of a table get, or absence where it cannot be numbered and is left
abbrev pub NumberGives : List ℕ → Option ℕ → List ℕ → Type 0
NumberGives xs (Some count) ys = Numberable xs × Renumbered (length xs) xs ys count
NumberGives xs None ys = (Numberable xs → ⊥) × (ys ≡ xs)
