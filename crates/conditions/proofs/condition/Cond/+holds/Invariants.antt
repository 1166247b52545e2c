use Rattle.conditions.proofs.condition.Cond.TheLaws.{the_size}
use Rattle.conditions.proofs.condition.Cond.+holds.Given as goal

abbrev pub decreases-holds : goal.decreases-holds
decreases-holds l = the_size l.self.now
