use Rattle.std.proofs.Common.{◌≡◌, ℕ, ◌≤◌, [], length, vec_items}
use Rattle.words.specs.Lines.{left}
use Rattle.conditions.specs.Variables.{names_of}
use Rattle.reader.specs.CaseWords.{effects}
use Rattle.reader.proofs.scope.Scope.effects.Given as goal

-- at each depth that suffices, some depth gives what is left
abbrev pub invariant-loop-out : goal.invariant-loop-out
invariant-loop-out l = (l.line.number ≡ l.initial.line.number) × ((n : ℕ) → length (left l.initial.line) ≤ n → (m : ℕ) × (length (left l.line) ≤ m) × (effects (names_of l.self.known.now) m (vec_items l.out) (left l.line) ≡ effects (names_of l.self.known.now) n [] (left l.initial.line)))

abbrev pub decreases-loop-out : goal.decreases-loop-out
decreases-loop-out l = length (left l.line)
