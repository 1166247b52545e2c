-- The grammar of conditions: which words mean which condition.
use Rattle.std.specs.Prelude.{◌≡◌, ℕ, true, cond, List, [], ◌∷◌, ◌++◌, Some, None, codes, Option}
use Rattle.std.specs.Str.{bytes_eq}
use Rattle.words.specs.Words.{Word, is_name, number_of}
use Rattle.conditions.specs.Conditions.{Tree, always, compare, not, both, either}
use Rattle.conditions.specs.Variables.{place}
use Rattle.conditions.specs.declared.condition.Relation.{Relation}
use Rattle.conditions.specs.declared.condition.Relation.TheVariants.{Equal, Less}
use Rattle.conditions.specs.declared.condition.Operand.{Operand}
use Rattle.conditions.specs.declared.condition.Operand.TheVariants.{Variable, Number}

-- how tightly a condition binds: `or` least, then `and`, then `not`; a base is a comparison, `always` or a condition in brackets
pub data Level : Type 0 where
  or_level : Level
  and_level : Level
  not_level : Level
  base_level : Level

abbrev pub relation : Word → Option Relation
relation w = cond (bytes_eq w (codes "=")) (Some Equal) (cond (bytes_eq w (codes "<")) (Some Less) None)

abbrev pub numbered : Option ℕ → Option Operand
numbered None = None
numbered (Some n) = Some (Number n)

-- a name or a number
abbrev pub operand : List Word → Word → Option Operand
operand ns w = cond (is_name w) (Some (Variable (place ns w))) (numbered (number_of w))

-- the words ws are a condition of a level and mean t, where ns are the names of the variables
pub data Means (ns : List Word) : Level → List Word → Tree → Type 0 where
  comparing : {a b o : Word} {r : Relation} {x : Operand} → is_name a ≡ true → relation b ≡ Some r → operand ns o ≡ Some x → Means ns base_level (a ∷ b ∷ o ∷ []) (compare (place ns a) r x)
  constant : Means ns base_level (codes "always" ∷ []) always
  bracket : {ws : List Word} {t : Tree} → Means ns or_level ws t → Means ns base_level (codes "(" ∷ (ws ++ codes ")" ∷ [])) t
  plain : {ws : List Word} {t : Tree} → Means ns base_level ws t → Means ns not_level ws t
  negated : {ws : List Word} {t : Tree} → Means ns not_level ws t → Means ns not_level (codes "not" ∷ ws) (not t)
  one_and : {ws : List Word} {t : Tree} → Means ns not_level ws t → Means ns and_level ws t
  more_and : {us ws : List Word} {s t : Tree} → Means ns not_level us s → Means ns and_level ws t → Means ns and_level (us ++ codes "and" ∷ ws) (both s t)
  one_or : {ws : List Word} {t : Tree} → Means ns and_level ws t → Means ns or_level ws t
  more_or : {us ws : List Word} {s t : Tree} → Means ns and_level us s → Means ns or_level ws t → Means ns or_level (us ++ codes "or" ∷ ws) (either s t)
