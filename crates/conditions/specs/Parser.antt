-- The condition that some words begin with, by recursive descent: `or` over `and` over `not` over comparisons and brackets.
-- The grammar that this reads, as a relation, is in Grammar.
use Rattle.std.specs.Prelude.{ℕ, zero, suc, ◌+◌, ◌*◌, cond, List, [], ◌∷◌, length, Some, None, codes, Option}
use Rattle.words.specs.Words.{Word, opens_with, after_first, is_name}
use Rattle.conditions.specs.Conditions.{Tree, always, compare, not, both, either}
use Rattle.conditions.specs.Grammar.{Level, or_level, and_level, not_level, base_level, relation, operand}
use Rattle.conditions.specs.Variables.{place}
use Rattle.conditions.specs.declared.condition.Relation.{Relation}
use Rattle.conditions.specs.declared.condition.Operand.{Operand}

-- what was read of some words, and the words that are left
abbrev pub Parsed : Type 0
Parsed = Option (Tree × List Word)

abbrev pub compared : ℕ → Option Relation → Option Operand → List Word → Parsed
compared v None o rest = None
compared v (Some r) None rest = None
compared v (Some r) (Some o) rest = Some (compare v r o, rest)

-- a name, `=` or `<`, then a name or number
abbrev pub comparison : List Word → List Word → Parsed
comparison names [] = None
comparison names (a ∷ []) = None
comparison names (a ∷ b ∷ []) = None
comparison names (a ∷ b ∷ o ∷ rest) = cond (is_name a) (compared (place names a) (relation b) (operand names o) rest) None

abbrev pub then : Parsed → (Tree → List Word → Parsed) → Parsed
then None f = None
then (Some p) f = f p.0 p.1

-- a left side, and where the word w follows, a right side
abbrev pub joined : Word → (Tree → Tree → Tree) → (List Word → Parsed) → (List Word → Parsed) → List Word → Parsed
joined w make left right ws =
    then (left ws) (λ c rest. let more = then (right (after_first rest)) (λ d last. Some (make c d, last)) in cond (opens_with w rest) more (Some (c, rest)))

abbrev pub negated : (List Word → Parsed) → (List Word → Parsed) → List Word → Parsed
negated again below ws =
    let yes = then (again (after_first ws)) (λ c rest. Some (not c, rest)) in
    let no = below ws in
    cond (opens_with (codes "not") ws) yes no

-- `always`, a comparison, or a whole condition in brackets
abbrev pub primary : List Word → (List Word → Parsed) → List Word → Parsed
primary names whole ws =
    let inner = then (whole (after_first ws)) (λ c rest. cond (opens_with (codes ")") rest) (Some (c, after_first rest)) None) in
    let plain = cond (opens_with (codes "always") ws) (Some (always, after_first ws)) (comparison names ws) in
    cond (opens_with (codes "(") ws) inner plain

-- the condition of a level that some words begin with; n bounds how deep the calls go
abbrev pub parse : List Word → ℕ → Level → List Word → Parsed
parse names zero l ws = None
parse names (suc n) or_level ws = joined (codes "or") either (parse names n and_level) (parse names n or_level) ws
parse names (suc n) and_level ws = joined (codes "and") both (parse names n not_level) (parse names n and_level) ws
parse names (suc n) not_level ws = negated (parse names n not_level) (parse names n base_level) ws
parse names (suc n) base_level ws = primary names (parse names n or_level) ws

abbrev pub rank : Level → ℕ
rank or_level = 4
rank and_level = 3
rank not_level = 2
rank base_level = 1

-- as deep as the calls can go
abbrev pub depth : Level → List Word → ℕ
depth l ws = 4 * length ws + rank l

-- the condition that some words begin with
abbrev pub condition : List Word → List Word → Parsed
condition names ws = parse names (depth or_level ws) or_level ws

-- a, if no word is left
abbrev pub ended : {A : Type 0} → A → List Word → Option A
ended a [] = Some a
ended a (w ∷ ws) = None

-- what was read, if that was all
abbrev pub alone : Parsed → Option Tree
alone None = None
alone (Some p) = ended p.0 p.1
