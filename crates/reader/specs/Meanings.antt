-- What the types of the code stand for.
use Rattle.std.specs.Prelude.{ℕ, List, map, vec_items, Vec}
use Rattle.std.specs.Borrow.{Bor}
use Rattle.std.specs.declared.alloc.Global.{Global}
use Rattle.words.specs.Words.{Word}
use Rattle.conditions.specs.Conditions.{Tree, tree}
use Rattle.conditions.specs.Variables.{Var, var_of}
use Rattle.conditions.specs.declared.condition.Cond.{Cond}
use Rattle.conditions.specs.declared.variable.Variable.{Variable}
use Rattle.reader.specs.RuleSets.{Rule, RuleSet}
use Rattle.reader.specs.declared.blocks.BlockTitle.{BlockTitle}
use Rattle.reader.specs.declared.rule_set.Case.{Case}
use Rattle.reader.specs.declared.rule_set.RuleSet.{RuleSet as CodeRuleSet}

abbrev pub vars_in : Vec (Variable (Bor Word)) Global → List Var
vars_in v = map var_of (vec_items v)

abbrev pub rule_of : Case → Rule
rule_of c = record { when = tree c.cond; results = vec_items c.effects }

abbrev pub rules_in : Vec Case Global → List Rule
rules_in v = map rule_of (vec_items v)

abbrev pub title_of : BlockTitle → Word × ℕ
title_of t = (t.name.now, t.count)

abbrev pub blocks_in : Vec (Vec Case Global) Global → List (List Rule)
blocks_in v = map rules_in (vec_items v)

abbrev pub trees_in : Vec Cond Global → List Tree
trees_in v = map tree (vec_items v)

-- what a `RuleSet` of the code says
abbrev pub rule_set_of : CodeRuleSet → RuleSet
rule_set_of r = record { variables = vars_in r.variables; blocks = blocks_in r.blocks; breaks = trees_in r.breaks }
