use Rattle.conditions.proofs.Sound.{exact}
use Rattle.conditions.proofs.parser.parser_exact.Goals as goal

pub returns : goal.returns
returns c = exact
