-- What a rule text says, and what is promised of a read text.
use Rattle.std.specs.Prelude.{◌≡◌, ℕ, ◌<◌, ◌≤◌, ◌⊎◌, List, [], length, Some, None, Ok, Err, Option, Result, slice_index_or}
use Rattle.std.specs.Borrow.{Bor}
use Rattle.conditions.specs.Variables.{names}
use Rattle.reader.specs.Answers.{RefusedWith}
use Rattle.reader.specs.Faults.{read_refusal}
use Rattle.reader.specs.RuleSets.{RuleSet}
use Rattle.reader.specs.Says.{Says}
use Rattle.reader.specs.declared.fault.ReadFault.{ReadFault}
use Rattle.reader.specs.declared.fault.ReadFault.TheVariants.{Memory}
use Rattle.ruletext.specs.Texts.{set_of}
use Rattle.ruletext.specs.declared.text.RuleText.{RuleText}

abbrev pub rule_set : RuleText → RuleSet
rule_set x = set_of x.variables x.blocks x.breaks

-- the name of the variable v, or none where v is no variable
abbrev pub Named : RuleSet → ℕ → Option (Bor (List ℕ)) → Type 0
Named r v None = length r.variables ≤ v
Named r v (Some n) = (v < length r.variables) × (n.now ≡ slice_index_or (names r.variables) v [])

-- a text is read as what it says, or refused as the format demands, or memory ran out
abbrev pub ReadAs : List ℕ → Result RuleText ReadFault → Type 0
ReadAs t (Ok x) = Says t (rule_set x)
ReadAs t (Err e) = (e ≡ Memory) ⊎ RefusedWith t (read_refusal e)
