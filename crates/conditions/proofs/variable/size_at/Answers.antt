use Rattle.std.proofs.Common.{rules}
use Rattle.conditions.proofs.VariableFacts.{size_found}
use Rattle.conditions.proofs.variable.size_at.Goals as goal

pub returns : goal.returns
returns c = size_found _ _ _ _ c.get.result c.get.ensures.lookup c.map_or.ensures (λ x q. search rules)
