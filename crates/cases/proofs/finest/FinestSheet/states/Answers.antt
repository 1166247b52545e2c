use Rattle.std.proofs.Common.{◌+◌, arith}
use Rattle.cases.proofs.FinestFacts.{finest_states, finest_lawful}
use Rattle.cases.proofs.finest.FinestSheet.states.Goals as goal

pub returns-clause-tells : goal.returns-clause-tells
returns-clause-tells c = omega (arith, c.from.ensures, finest_states (c.args.self.now.last + 1))

pub returns-clause-lawful : goal.returns-clause-lawful
returns-clause-lawful c = finest_lawful (c.args.self.now.last + 1)

pub returns-clause-held : goal.returns-clause-held
returns-clause-held c = omega (arith, finest_states (c.args.self.now.last + 1))
