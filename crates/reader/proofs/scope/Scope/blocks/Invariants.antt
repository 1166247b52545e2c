use Rattle.std.proofs.Common.{◌≡◌, ◌-◌, [], length}
use Rattle.words.specs.Lines.{lines_of}
use Rattle.conditions.specs.Variables.{vars_of}
use Rattle.reader.specs.Sections.{many}
use Rattle.reader.specs.BlockLines.{block}
use Rattle.reader.specs.Meanings.{blocks_in}
use Rattle.reader.proofs.scope.Scope.blocks.Given as goal

abbrev pub invariant-loop-i : goal.invariant-loop-i
invariant-loop-i l = (many (λ bs. block (vars_of l.self.known.now) (length bs)) (l.count - l.i) (blocks_in l.out) l.reader.line (lines_of l.reader) ≡ many (λ bs. block (vars_of l.self.known.now) (length bs)) l.count [] l.initial.reader.line (lines_of l.initial.reader)) × (length (blocks_in l.out) ≡ l.i)
