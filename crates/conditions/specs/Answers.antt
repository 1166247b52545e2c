-- What the answers of the reader of conditions say.
use Rattle.std.specs.Prelude.{◌≡◌, ℕ, ◌<◌, ◌≤◌, ◌↔◌, List, length, Some, None, Ok, Err, Option, Result}
use Rattle.words.specs.Lines.{left}
use Rattle.words.specs.Words.{Word}
use Rattle.words.specs.declared.fault.WordFault.{WordFault}
use Rattle.words.specs.declared.fault.WordFault.TheVariants.{Form}
use Rattle.words.specs.declared.line.Line.{Line}
use Rattle.conditions.specs.Conditions.{Tree, tree}
use Rattle.conditions.specs.Grammar.{Level, or_level, Means}
use Rattle.conditions.specs.Parser.{Parsed, depth, parse, condition, alone}
use Rattle.conditions.specs.declared.condition.Cond.{Cond}
use Rattle.conditions.specs.declared.fault.ConditionFault.{ConditionFault}
use Rattle.conditions.specs.declared.fault.ConditionFault.TheVariants as fault

-- A WHOLE LINE

-- the words ws of the line n, which have to be a condition: a fault of form says that they are none, and want of memory says nothing
abbrev pub Takes : List Word → List Word → ℕ → Result Cond ConditionFault → Type 0
Takes ns ws n (Ok c) = Means ns or_level ws (tree c)
Takes ns ws n (Err (fault.Word f)) = (f ≡ Form n) × ((t : Tree) → Means ns or_level ws t → ⊥)
Takes ns ws n (Err fault.Memory) = Unit {0}

-- the parser takes exactly the words that the grammar derives, at their meaning
abbrev pub ParserExact : Type 0
ParserExact = (ns ws : List Word) (t : Tree) → (alone (condition ns ws) ≡ Some t) ↔ Means ns or_level ws t

-- A PART OF A LINE

-- an answer on the line n is what p has, with the words that are left
abbrev pub Parses : {A B : Type 0} → (A → B) → Option (B × List Word) → ℕ → Result A WordFault → List Word → Type 0
Parses f p n (Ok a) rest = p ≡ Some (f a, rest)
Parses f p n (Err e) rest = (p ≡ None) × (e ≡ Form n)

-- a fault of form on the line n, where p has nothing; want of memory says nothing
abbrev pub Unformed : {A : Type 0} → Option A → ℕ → ConditionFault → Type 0
Unformed p n (fault.Word f) = (p ≡ None) × (f ≡ Form n)
Unformed p n fault.Memory = Unit {0}

-- an answer on the line n is what p has
abbrev pub Formed : {A B : Type 0} → (A → B) → Option B → ℕ → Result A ConditionFault → Type 0
Formed f p n (Ok a) = p ≡ Some (f a)
Formed f p n (Err e) = Unformed p n e

abbrev pub ParsedAs : Parsed → ℕ → Result Cond ConditionFault → List Word → Type 0
ParsedAs p n (Ok c) rest = p ≡ Some (tree c, rest)
ParsedAs p n (Err e) rest = Unformed p n e

abbrev pub Shorter : List Word → Result Cond ConditionFault → List Word → Type 0
Shorter ws (Ok c) rest = length rest < length ws
Shorter ws (Err e) rest = Unit {0}

-- the answer of the level l on the line a, which is then b, at every depth that suffices
pub record Reads (names : List Word) (l : Level) (a : Line) (r : Result Cond ConditionFault) (b : Line) : Type 0 where
  pub same : b.number ≡ a.number
  pub shorter : Shorter (left a) r (left b)
  pub says : (n : ℕ) → depth l (left a) ≤ n → ParsedAs (parse names n l (left a)) a.number r (left b)
