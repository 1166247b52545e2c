use Rattle.std.proofs.Common.{◌+◌, ◌∙◌}
use Rattle.cases.proofs.FinestFacts.{finest_states}
use Rattle.cases.proofs.finest.FinestSheet.count.Goals as goal

pub returns : goal.returns
returns c = c.states.ensures.tells ∙ finest_states (c.args.self.now.last + 1)
