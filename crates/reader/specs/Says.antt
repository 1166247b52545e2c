-- The grammar of a rule text: which text says which rule set.
use Rattle.std.specs.Prelude.{◌≡◌, ℕ, ◌*◌, Bool, true, not, ◌&&◌, ◌↔◌, List, [], ◌∷◌, ◌++◌, length, Some, codes, Option, nat_eq, nat_le}
use Rattle.words.specs.Pieces.{pieces}
use Rattle.words.specs.Reading.{got, headed}
use Rattle.words.specs.Texts.{is_text, is_line}
use Rattle.words.specs.Words.{Word, words, each, within}
use Rattle.conditions.specs.Conditions.{Tree, known_tree}
use Rattle.conditions.specs.Grammar.{Means, or_level}
use Rattle.conditions.specs.Variables.{Var, declared, names, place, size_at}
use Rattle.reader.specs.BlockLines.{title, known_effect, small_effect, fitting_effect}
use Rattle.reader.specs.Cases.{RuleMeans}
use Rattle.reader.specs.RuleSets.{Rule, RuleSet}
use Rattle.reader.specs.VariableLines.{declaration, rising, product}
use Rattle.reader.specs.WholeTexts.{read_text}

-- one line, whose words say a
abbrev pub LineIs : {A : Type 0} → (List Word → A → Type 0) → List (List ℕ) → A → Type 0
LineIs R [] a = ⊥
LineIs R (l ∷ []) a = (is_line l ≡ true) × R (words l) a
LineIs R (l ∷ k ∷ ls) a = ⊥

-- one line, of a form
abbrev pub LineOf : {A : Type 0} → (List Word → Option A) → List (List ℕ) → A → Type 0
LineOf form ls a = LineIs (λ ws x. form ws ≡ Some x) ls a

-- lines that say ys, part by part, behind what said xs
pub data Each {A : Type 0} (P : List A → List (List ℕ) → A → Type 0) : List A → List (List ℕ) → List A → Type 0 where
  none : {xs : List A} → Each P xs [] []
  more : {xs ys : List A} {x : A} {ls ks : List (List ℕ)} → P xs ls x → Each P (xs ++ x ∷ []) ks ys → Each P xs (ls ++ ks) (x ∷ ys)

-- a heading, and as many parts as it says; the count passes a test
pub record Section {A : Type 0} (w : Word) (ok : ℕ → Bool) (P : List A → List (List ℕ) → A → Type 0) (ls : List (List ℕ)) (xs : List A) : Type 0 where
  pub head : List (List ℕ)
  pub body : List (List ℕ)
  pub lines : ls ≡ head ++ body
  pub heading : LineOf (headed w) head (length xs)
  pub limits : ok (length xs) ≡ true
  pub parts : Each P [] body xs

-- a variable behind those of vs: 2 to 16 values, a name that is free, start values that rise below the size, and at most 4,096 states so far
pub record VariableFits (vs : List Var) (v : Var) : Type 0 where
  pub sized : within 2 16 v.size ≡ true
  pub free : not (declared (names vs) v.name) ≡ true
  pub starting : rising 0 v.size v.starts ≡ true
  pub states : nat_le (product vs * v.size) 4096 ≡ true

abbrev pub VariableLine : List Var → List (List ℕ) → Var → Type 0
VariableLine vs ls v = LineOf declaration ls v × VariableFits vs v

-- a rule for the variable i: each name is a variable's, numbers are below its size, and no variable that a result names is larger
pub record RuleFits (vs : List Var) (i : ℕ) (r : Rule) : Type 0 where
  pub known : (known_tree (length vs) r.when && each (known_effect (length vs)) r.results) ≡ true
  pub small : each (small_effect (size_at vs i)) r.results ≡ true
  pub fitting : each (fitting_effect vs (size_at vs i)) r.results ≡ true

abbrev pub BlockLine : List Var → ℕ → List (List ℕ) → Rule → Type 0
BlockLine vs i ls r = LineIs (RuleMeans (names vs)) ls r × RuleFits vs i r

-- the block of the variable i: its name and a count up to 8, and that many lines
pub record Block (vs : List Var) (i : ℕ) (ls : List (List ℕ)) (rs : List Rule) : Type 0 where
  pub name : Word
  pub head : List (List ℕ)
  pub body : List (List ℕ)
  pub lines : ls ≡ head ++ body
  pub heading : LineOf title head (name, length rs)
  pub limits : nat_le (length rs) 8 ≡ true
  pub own : nat_eq (place (names vs) name) i ≡ true
  pub rules : Each (λ _. BlockLine vs i) [] body rs

-- a condition that breaks: each name is a variable's
abbrev pub BreakLine : List Var → List (List ℕ) → Tree → Type 0
BreakLine vs ls c = LineIs (Means (names vs) or_level) ls c × (known_tree (length vs) c ≡ true)

-- the text t says the rule set r: its lines are three sections
pub record Says (t : List ℕ) (r : RuleSet) : Type 0 where
  pub text : is_text t ≡ true
  pub first : List (List ℕ)
  pub second : List (List ℕ)
  pub third : List (List ℕ)
  pub lines : pieces 10 t ≡ first ++ (second ++ third)
  pub variables : Section (codes "variables") (within 1 12) VariableLine first r.variables
  pub blocks : Section (codes "blocks") (λ k. nat_eq k (length r.variables)) (λ bs. Block r.variables (length bs)) second r.blocks
  pub breaks : Section (codes "breaks") (λ k. nat_le k 8) (λ _. BreakLine r.variables) third r.breaks

-- a text is read exactly if it says a rule set, and then that one is read
abbrev pub ReadsExactly : Type 0
ReadsExactly = (t : List ℕ) (r : RuleSet) → ((n : ℕ) × (ls : List (List ℕ)) × (read_text t ≡ got r n ls)) ↔ Says t r
