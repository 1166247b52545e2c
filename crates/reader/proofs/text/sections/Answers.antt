use Rattle.std.proofs.Common.{sym}
use Rattle.reader.specs.Meanings.{rule_set_of}
use Rattle.reader.proofs.SectionFacts.{part_refused}
use Rattle.reader.proofs.text.sections.Goals as goal

pub returns-in_err-blocks : goal.returns-in_err-blocks
returns-in_err-blocks c =
    part_refused rule_set_of _ _ _ _ _ c.from_residual-in_err-blocks.ensures.1 c.in_err-blocks.ensures (λ item at e. rw (c.in_ok-variables.ensures, sym c.deref.ensures.value, e))
