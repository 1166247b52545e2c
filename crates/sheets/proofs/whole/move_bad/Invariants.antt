use Rattle.std.proofs.Common.{◌≡◌, ℕ, ◌≤◌, get_or}
use Rattle.sheets.specs.Numbering.{Moved}
use Rattle.sheets.proofs.whole.move_bad.Given as goal

-- the entries below s are moved, and the others are as they were
abbrev pub invariant-loop-s : goal.invariant-loop-s
invariant-loop-s l = record {
  done : Moved l.to l.s l.marks l.initial.table l.table;
  rest : (k : ℕ) → l.s ≤ k → get_or l.table k 0 ≡ get_or l.initial.table k 0;
}
