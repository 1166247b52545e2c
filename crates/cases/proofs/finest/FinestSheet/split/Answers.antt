use Rattle.std.proofs.Common.{◌+◌, refl}
use Rattle.cases.proofs.FinestFacts.{finest_unsplit}
use Rattle.cases.proofs.finest.FinestSheet.split.Goals as goal

pub returns-clause-gives : goal.returns-clause-gives
returns-clause-gives c = (finest_unsplit (c.args.self.now.last + 1) c.args.class c.args.marks.now, refl, refl)
