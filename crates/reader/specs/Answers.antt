-- What is promised of the reader's answers.
use Rattle.std.specs.Prelude.{◌≡◌, ℕ, ◌⊎◌, List, Some, None, Ok, Err, Option, Result}
use Rattle.rules.specs.declared.refusal.Refusal.{Refusal}
use Rattle.words.specs.Lines.{lines_of}
use Rattle.words.specs.Reading.{Read, got, refused}
use Rattle.words.specs.declared.text_reader.TextReader.{TextReader}
use Rattle.reader.specs.Faults.{FaultSays, layer, read_refusal}
use Rattle.reader.specs.Meanings.{rule_set_of}
use Rattle.reader.specs.RuleSets.{RuleSet}
use Rattle.reader.specs.Says.{Says}
use Rattle.reader.specs.WholeTexts.{read_text}
use Rattle.reader.specs.declared.fault.ReadFault.{ReadFault}
use Rattle.reader.specs.declared.fault.ReadFault.TheVariants.{Memory}
use Rattle.reader.specs.declared.rule_set.RuleSet.{RuleSet as CodeRuleSet}

-- A WHOLE TEXT

-- x is the refusal of the text t: its number and its place are those that the format demands, its layer is the number's, and t says nothing
pub record RefusedWith (t : List ℕ) (x : Refusal) : Type 0 where
  pub demanded : read_text t ≡ refused x.number x.place
  pub layered : x.layer ≡ layer x.number
  pub unsaid : (r : RuleSet) → Says t r → ⊥

-- the text t is read as what it says, or refused as the format demands, or memory ran out
abbrev pub Answers : List ℕ → Result CodeRuleSet ReadFault → Type 0
Answers t (Ok r) = Says t (rule_set_of r)
Answers t (Err e) = (e ≡ Memory) ⊎ RefusedWith t (read_refusal e)

-- A PART OF A TEXT

-- an answer of the code, which f turns into what it means, is the reading p, and z has the lines that are then left
abbrev pub Tells : {A B : Type 0} → (A → B) → Read B → Result A ReadFault → TextReader → Type 0
Tells f p (Ok a) z = p ≡ got (f a) z.line (lines_of z)
Tells f p (Err e) z = FaultSays e (λ number place. p ≡ refused number place)

-- an answer on the line n is what its form p gives
abbrev pub Forms : {A B : Type 0} → (A → B) → Option B → ℕ → Result A ReadFault → Type 0
Forms f p n (Ok a) = p ≡ Some (f a)
Forms f p n (Err e) = FaultSays e (λ number place. (p ≡ None) × (number ≡ 4) × (place ≡ n))
