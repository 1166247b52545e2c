-- The whole-state sheet: what it is at first, and what it makes of a split.
use Rattle.std.specs.Prelude.{◌≡◌, ℕ, ◌<◌, ◌↔◌, List, ◌==◌, slice_index}
use Rattle.rules.specs.Rules.{Rules}
use Rattle.sheets.specs.Classes.{Classes, states, class, Lawful}

-- classes are numbered by lowest member: each number below a state's class number is that of an earlier state
abbrev pub Numbered : Classes → Type 0
Numbered c = (s k : ℕ) → s < states c → k < class c s → (t : ℕ) × (t < s) × (class c t ≡ k)

-- at first the breaking states form one class and the rest another
pub record FirstWhole (r : Rules) (c : Classes) : Type 0 where
  pub lawful : Lawful c
  pub states_are : states c ≡ r.size
  pub together : (s t : ℕ) → s < states c → t < states c → (class c s ≡ class c t) ↔ (r.breaks s ≡ r.breaks t)
  pub numbered : Numbered c

-- in a split the bad states become one new class
pub record WholeSplit (c : Classes) (marks : List ℕ) (d : Classes) : Type 0 where
  pub lawful : Lawful d
  pub states_are : states d ≡ states c
  pub together : (s t : ℕ) → s < states c → t < states c → (class d s ≡ class d t) ↔ ((class c s ≡ class c t) × ((slice_index marks s == 2) ≡ (slice_index marks t == 2)))
  pub numbered : Numbered d
