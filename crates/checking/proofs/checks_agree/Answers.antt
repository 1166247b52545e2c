use Rattle.checking.proofs.Agreement.{checks_agree}
use Rattle.checking.proofs.checks_agree.Goals as goal

pub returns : goal.returns
returns c = checks_agree
