use Rattle.std.proofs.Common.{◌≡◌, ◌-◌, []}
use Rattle.words.specs.Lines.{lines_of}
use Rattle.conditions.specs.Variables.{vars_of}
use Rattle.reader.specs.Sections.{many}
use Rattle.reader.specs.BreakLines.{break_line}
use Rattle.reader.specs.Meanings.{trees_in}
use Rattle.reader.proofs.scope.Scope.breaks.Given as goal

abbrev pub invariant-loop-i : goal.invariant-loop-i
invariant-loop-i l = (many (λ _. break_line (vars_of l.self.known.now)) (l.count - l._i) (trees_in l.out) l.reader.line (lines_of l.reader) ≡ many (λ _. break_line (vars_of l.self.known.now)) l.count [] l.initial.reader.line (lines_of l.initial.reader))
