use Rattle.std.proofs.Common.{◌≡◌, ℕ, ◌<◌, get_or}
use Rattle.sheets.specs.Numbering.{bit}
use Rattle.sheets.proofs.whole.part_breaking.Given as goal

abbrev pub invariant-loop-s : goal.invariant-loop-s
invariant-loop-s g l = (k : ℕ) → k < l.s → get_or l.table k 0 ≡ bit ((g.R.RuleSource.rules l.source).breaks k)
