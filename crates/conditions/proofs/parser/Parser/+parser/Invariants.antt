use Rattle.words.specs.Lines.{left}
use Rattle.conditions.specs.Parser.{depth}
use Rattle.conditions.specs.Grammar.{or_level, and_level, not_level, base_level}
use Rattle.conditions.proofs.parser.Parser.+parser.Given as goal

abbrev pub decreases-conjunction : goal.decreases-conjunction
decreases-conjunction l = depth and_level (left l.line.now)

abbrev pub decreases-primary : goal.decreases-primary
decreases-primary l = depth base_level (left l.line.now)

abbrev pub decreases-negation : goal.decreases-negation
decreases-negation l = depth not_level (left l.line.now)

abbrev pub decreases-disjunction : goal.decreases-disjunction
decreases-disjunction l = depth or_level (left l.line.now)
