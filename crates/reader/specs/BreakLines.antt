-- The third section: `breaks`, a count up to 8, and a condition on each line.
use Rattle.std.specs.Prelude.{ℕ, List, length, codes, nat_le}
use Rattle.words.specs.Reading.{Read, got, then, given, line_of}
use Rattle.conditions.specs.Conditions.{Tree, known_tree}
use Rattle.conditions.specs.Parser.{alone, condition}
use Rattle.conditions.specs.Variables.{Var, names}
use Rattle.reader.specs.Sections.{section}

-- 7 a name that is none of the variables
abbrev pub break_line : List Var → ℕ → List (List ℕ) → Read Tree
break_line vs n ls = then (line_of (λ ws. alone (condition (names vs) ws)) n ls) (λ c m more. given (known_tree (length vs) c) 7 m (got c m more))

abbrev pub section_breaks : List Var → ℕ → List (List ℕ) → Read (List Tree)
section_breaks vs n ls = section (codes "breaks") (λ k. nat_le k 8) (λ _. break_line vs) n ls
