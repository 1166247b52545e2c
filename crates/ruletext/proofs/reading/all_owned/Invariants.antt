use Rattle.std.proofs.Common.{◌≡◌, map, take, vec_items}
use Rattle.conditions.specs.Variables.{var_of}
use Rattle.ruletext.specs.Texts.{variable_of}
use Rattle.ruletext.proofs.reading.all_owned.Given as goal

abbrev pub invariant-loop-variable : goal.invariant-loop-variable
invariant-loop-variable l = map variable_of (vec_items l.out) ≡ map var_of (take l.variable-index l.variables)
