-- What a split of a class by marks gives. A mark is one byte a state: 1 dead, 2 bad, 0 neither.
use Rattle.std.specs.Prelude.{◌≡◌, ℕ, ◌<◌, ◌≤◌, ◌≢◌, List, length, Ok, Err, Result, slice_index}
use Rattle.sheets.specs.Classes.{Classes, states, class, Lawful}
use Rattle.sheets.specs.declared.sheet.SheetFault.{SheetFault}
use Rattle.sheets.specs.declared.sheet.SheetFault.TheVariants.{BadMarks}

-- the marks split the class k: only the first mark of each state is read
pub record Splittable (c : Classes) (k : ℕ) (marks : List ℕ) : Type 0 where
  pub class_below : k < c.count
  pub enough : states c ≤ length marks
  pub small : (s : ℕ) → s < states c → slice_index marks s ≤ 2
  pub inside : (s : ℕ) → s < states c → slice_index marks s ≢ 0 → class c s ≡ k
  pub dead : (s : ℕ) × (s < states c) × (slice_index marks s ≡ 1)
  pub bad : (s : ℕ) × (s < states c) × (slice_index marks s ≡ 2)

-- what every kind of sheet keeps: the states stay, those of different classes stay apart, and no dead state shares a class with a bad one
pub record SplitInto (c : Classes) (marks : List ℕ) (d : Classes) : Type 0 where
  pub lawful : Lawful d
  pub same_states : states d ≡ states c
  pub apart : (s t : ℕ) → s < states c → t < states c → class c s ≢ class c t → class d s ≢ class d t
  pub parted : (s t : ℕ) → s < states c → t < states c → slice_index marks s ≡ 1 → slice_index marks t ≡ 2 → class d s ≢ class d t

-- a split of c leaves d: it is refused exactly where the marks do not split the class, and then c is left
abbrev pub SplitGives : Classes → ℕ → List ℕ → Result (Unit {0}) SheetFault → Classes → Type 0
SplitGives c k marks (Ok _) d = Splittable c k marks × SplitInto c marks d
SplitGives c k marks (Err fault) d = (Splittable c k marks → ⊥) × (fault ≡ BadMarks) × (d ≡ c)
