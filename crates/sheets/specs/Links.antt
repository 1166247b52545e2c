-- Linked lists of the places of each number, threaded through two tables.
use Rattle.std.specs.Prelude.{ℕ, ◌+◌, ◌<◌, ◌≤◌, Bool, ◌&&◌, List, length, ◌==◌, nat_lt, slice_index, slice_index_or}
use Rattle.rules.specs.Next.{LowestFrom}
use Rattle.sheets.specs.Slots.{content, no_number}
use Rattle.sheets.specs.declared.slot.Slot.{Slot}

-- whether k stands at the place i
abbrev pub stands : List ℕ → ℕ → ℕ → Bool
stands xs k i = nat_lt i (length xs) && slice_index xs i == k

-- the places from i on are linked: `first` has the first place of each number, and `after` for each place the next one of the same number
pub record Linked (xs : List ℕ) (i : ℕ) (first after : List Slot) : Type 0 where
  pub firsts : (k : ℕ) → k < length first → LowestFrom (stands xs k) i (content (slice_index_or first k no_number))
  pub afters : (s : ℕ) → i ≤ s → s < length xs → LowestFrom (stands xs (slice_index xs s)) (s + 1) (content (slice_index_or after s no_number))
