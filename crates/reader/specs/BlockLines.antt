-- The second section: `blocks`, the number of variables, and a block for each in their order.
use Rattle.std.specs.Prelude.{ℕ, Bool, true, cond, ◌&&◌, List, [], ◌∷◌, length, Some, None, codes, Option, ◌==◌, nat_eq, nat_le, nat_lt}
use Rattle.words.specs.Reading.{Read, got, then, given, line_of}
use Rattle.words.specs.Words.{Word, each, is_name, number_of}
use Rattle.conditions.specs.Conditions.{known_tree}
use Rattle.conditions.specs.Variables.{Var, names, place, size_at}
use Rattle.reader.specs.CaseWords.{rule}
use Rattle.reader.specs.RuleSets.{Rule}
use Rattle.reader.specs.Sections.{many, section}
use Rattle.reader.specs.declared.rule_set.Effect.{Effect}
use Rattle.reader.specs.declared.rule_set.Effect.TheVariants.{Plain, Sum}

abbrev pub entitled : Word → Option ℕ → Option (Word × ℕ)
entitled w None = None
entitled w (Some n) = Some (w, n)

-- a name and a count
abbrev pub title : List Word → Option (Word × ℕ)
title [] = None
title (a ∷ []) = None
title (a ∷ b ∷ []) = cond (is_name a) (entitled a (number_of b)) None
title (a ∷ b ∷ c ∷ ws) = None

-- each variable is one of the first n
abbrev pub known_effect : ℕ → Effect → Bool
known_effect n (Plain m) = true
known_effect n (Sum k m) = nat_lt k n

-- a number is below the size
abbrev pub small_effect : ℕ → Effect → Bool
small_effect size (Plain m) = nat_lt m size
small_effect size (Sum k m) = true

-- a variable is no larger than the size
abbrev pub fitting_effect : List Var → ℕ → Effect → Bool
fitting_effect vs size (Plain m) = true
fitting_effect vs size (Sum k m) = nat_le (size_at vs k) size

-- a line of the block of the variable i: 7 a name that is none of the variables, 8 a number that is not below the size, 9 a variable that is
-- larger than the one being set
abbrev pub block_line : List Var → ℕ → ℕ → List (List ℕ) → Read Rule
block_line vs i n ls =
    then (line_of (rule (names vs)) n ls) (λ r m more.
    given (known_tree (length vs) r.when && each (known_effect (length vs)) r.results) 7 m (
    given (each (small_effect (size_at vs i)) r.results) 8 m (
    given (each (fitting_effect vs (size_at vs i)) r.results) 9 m (got r m more))))

-- the first line of the block of the variable i: 5 more than 8 lines, 7 the name of another variable
abbrev pub block_head : List Var → ℕ → ℕ → List (List ℕ) → Read ℕ
block_head vs i n ls =
    then (line_of title n ls) (λ t m more. given (nat_le t.1 8) 5 m (given (place (names vs) t.0 == i) 7 m (got t.1 m more)))

-- the block of the variable i
abbrev pub block : List Var → ℕ → ℕ → List (List ℕ) → Read (List Rule)
block vs i n ls = then (block_head vs i n ls) (λ k m more. many (λ _. block_line vs i) k [] m more)

abbrev pub section_blocks : List Var → ℕ → List (List ℕ) → Read (List (List Rule))
section_blocks vs n ls = section (codes "blocks") (λ k. nat_eq k (length vs)) (λ bs. block vs (length bs)) n ls
