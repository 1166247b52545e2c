use Rattle.std.proofs.Common.{◌≡◌, ◌-◌, []}
use Rattle.words.specs.Lines.{lines_of}
use Rattle.conditions.specs.Variables.{vars_of}
use Rattle.reader.specs.Sections.{many}
use Rattle.reader.specs.BlockLines.{block_line}
use Rattle.reader.specs.Meanings.{rules_in}
use Rattle.reader.proofs.scope.Scope.block.Given as goal

abbrev pub invariant-loop-j : goal.invariant-loop-j
invariant-loop-j l = many (λ _. block_line (vars_of l.self.known.now) l.i) (l.count - l._j) (rules_in l.cases) l.reader.line (lines_of l.reader) ≡ many (λ _. block_line (vars_of l.self.known.now) l.i) l.count [] l.initial.reader.line (lines_of l.initial.reader)
