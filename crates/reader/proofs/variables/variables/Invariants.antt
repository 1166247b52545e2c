use Rattle.std.proofs.Common.{◌≡◌, ◌-◌, ◌≤◌, []}
use Rattle.words.specs.Lines.{lines_of}
use Rattle.reader.specs.Sections.{many}
use Rattle.reader.specs.VariableLines.{variable, product}
use Rattle.reader.specs.Meanings.{vars_in}
use Rattle.reader.proofs.variables.variables.Given as goal

abbrev pub invariant-loop-i : goal.invariant-loop-i
invariant-loop-i l = (many variable (l.count - l._i) (vars_in l.known) l.reader.line (lines_of l.reader) ≡ many variable l.count [] l.initial.reader.line (lines_of l.initial.reader)) × (l.states ≤ 4096) × (l.states ≡ product (vars_in l.known))
