-- What a rule text says.
use Rattle.std.specs.Prelude.{List}
use Rattle.conditions.specs.Conditions.{Tree}
use Rattle.conditions.specs.Variables.{Var}
use Rattle.reader.specs.declared.rule_set.Effect.{Effect}

-- a line of a block: where a condition holds, the block's variable may become each of the results
pub record Rule : Type 0 where
  pub when : Tree
  pub results : List Effect

-- the variables, a block for each of them, and the conditions that break
pub record RuleSet : Type 0 where
  pub variables : List Var
  pub blocks : List (List Rule)
  pub breaks : List Tree
