-- What the fields of a rule text stand for.
use Rattle.std.specs.Prelude.{ℕ, map, vec_items, Vec}
use Rattle.std.specs.declared.alloc.Global.{Global}
use Rattle.conditions.specs.Variables.{Var, var_with}
use Rattle.conditions.specs.declared.condition.Cond.{Cond}
use Rattle.conditions.specs.declared.variable.Variable.{Variable}
use Rattle.reader.specs.Meanings.{blocks_in, trees_in}
use Rattle.reader.specs.RuleSets.{RuleSet}
use Rattle.reader.specs.declared.rule_set.Case.{Case}

-- a variable that owns its name
abbrev pub variable_of : Variable (Vec ℕ Global) → Var
variable_of v = var_with (λ name. vec_items name) v

-- the rule set of these variables, blocks and break lines
abbrev pub set_of : Vec (Variable (Vec ℕ Global)) Global → Vec (Vec Case Global) Global → Vec Cond Global → RuleSet
set_of variables blocks breaks =
    record { variables = map variable_of (vec_items variables); blocks = blocks_in blocks; breaks = trees_in breaks }
