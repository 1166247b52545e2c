use Rattle.std.proofs.Common.{◌≡◌, ℕ, ◌<◌, get_or}
use Rattle.columnsheet.specs.Kept.{class_number}
use Rattle.columnsheet.proofs.parts.Parts.fill_table.Given as goal

abbrev pub invariant-loop-s : goal.invariant-loop-s
invariant-loop-s l = (s : ℕ) → s < l.s → get_or l.class-items s 0 ≡ class_number l.self s
