use Rattle.conditions.proofs.condition.Cond.TheLaws.{the_size}
use Rattle.conditions.proofs.condition.Cond.+is_known.Given as goal

abbrev pub decreases-is_known : goal.decreases-is_known
decreases-is_known l = the_size l.self.now
