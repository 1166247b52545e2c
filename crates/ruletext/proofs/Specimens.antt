-- A text, what it says, and the steps of one of its states, by computing.
use Rattle.std.proofs.Common.{◌≡◌, ℕ, Bool, true, cond, not, ◌||◌, eqb, List, [], ◌∷◌, ◌++◌, length, codes, refl}
use Prim.Native.String.{String}
use Rattle.words.specs.Reading.{got}
use Rattle.rules.specs.Rules.{Rules}
use Rattle.columns.specs.Columns.{number, values, each_below}
use Rattle.conditions.specs.Conditions as condition
use Rattle.conditions.specs.declared.condition.Operand.TheVariants.{Variable, Number}
use Rattle.conditions.specs.declared.condition.Relation.TheVariants.{Equal}
use Rattle.reader.specs.RuleSets.{RuleSet}
use Rattle.reader.specs.WholeTexts.{read_text}
use Rattle.reader.specs.declared.rule_set.Effect.TheVariants.{Plain, Sum}
use Rattle.steps.specs.Atoms.{atoms_of, text_columns}
use Rattle.steps.specs.Meaning.{sizes, text_rules}

-- lines, each with its end
abbrev text : List String → List ℕ
text [] = []
text (s ∷ ss) = codes s ++ (10 ∷ text ss)

abbrev days : List String
days = "variables 3" ∷ "day 3 1" ∷ "kept 3 1" ∷ "full 2 0" ∷ "blocks 3" ∷ "day 1" ∷ "always : day , day + 1" ∷ "kept 1" ∷ "full = 0 : day" ∷ "full 1" ∷ "full = 0 : 0 , 1" ∷ "breaks 1" ∷ "full = 1 and not kept = day" ∷ []

abbrev days_set : RuleSet
days_set = record {
  variables = record { name = codes "day"; size = 3; starts = 1 ∷ [] } ∷ record { name = codes "kept"; size = 3; starts = 1 ∷ [] } ∷ record { name = codes "full"; size = 2; starts = 0 ∷ [] } ∷ [];
  blocks = (record { when = condition.always; results = Sum 0 0 ∷ Sum 0 1 ∷ [] } ∷ []) ∷ (record { when = condition.compare 2 Equal (Number 0); results = Sum 0 0 ∷ [] } ∷ []) ∷ (record { when = condition.compare 2 Equal (Number 0); results = Plain 0 ∷ Plain 1 ∷ [] } ∷ []) ∷ [];
  breaks = condition.both (condition.compare 2 Equal (Number 1)) (condition.not (condition.compare 1 Equal (Variable 0))) ∷ [];
}

says_days : read_text (text days) ≡ got days_set 13 []
says_days = refl

abbrev days_rules : Rules
days_rules = text_rules days_set

abbrev same : Bool → Bool → Bool
same a b = cond a b (not b)

-- the states are those below 18, the one start is day 1, kept 1, not full, and that one is 8
size_days : days_rules.size ≡ 18
size_days = refl

number_days : number (sizes days_set) (1 ∷ 1 ∷ 0 ∷ []) ≡ 8
number_days = refl

values_days : values (sizes days_set) 8 ≡ 1 ∷ 1 ∷ 0 ∷ []
values_days = refl

starts_days : each_below 20 (λ s. same (days_rules.starts s) (eqb s 8)) ≡ true
starts_days = refl

-- from 8 the day goes on or not, what is kept stays, and it fills or not: 8, 9, 14 and 15
steps_days : each_below 20 (λ t. same (days_rules.steps 8 t) (eqb t 8 || (eqb t 9 || (eqb t 14 || eqb t 15)))) ≡ true
steps_days = refl

-- it breaks where it is full and what is kept is another day
breaks_days : each_below 20 (λ s. same (days_rules.breaks s) (eqb s 3 || (eqb s 5 || (eqb s 7 || (eqb s 11 || (eqb s 13 || eqb s 15)))))) ≡ true
breaks_days = refl

-- the comparisons are full = 0 twice, full = 1, and kept = day, which reads the variables 0 and 1
atoms_days : length (atoms_of days_set) ≡ 4
atoms_days = refl

reads_days : each_below 4 (λ v. same ((text_columns days_set).reads 3 v) (eqb v 0 || eqb v 1)) ≡ true
reads_days = refl
