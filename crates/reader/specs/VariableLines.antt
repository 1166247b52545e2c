-- The first section: `variables`, a count from 1 to 12, and a line for each.
use Rattle.std.specs.Prelude.{ℕ, ◌+◌, ◌*◌, Bool, true, cond, ◌&&◌, List, [], ◌∷◌, Some, None, codes, Option, nat_le, nat_lt}
use Rattle.words.specs.Reading.{Read, got, then, given, line_of}
use Rattle.words.specs.Words.{Word, within, is_name, number_of}
use Rattle.conditions.specs.Variables.{Var, declared, names}
use Rattle.reader.specs.Sections.{section}
use Rattle.std.proofs.Math.Bool as bool

abbrev pub numbers_from : Option ℕ → Option (List ℕ) → Option (List ℕ)
numbers_from None ns = None
numbers_from (Some n) None = None
numbers_from (Some n) (Some ns) = Some (n ∷ ns)

-- the numbers that some words are
abbrev pub numbers : List Word → Option (List ℕ)
numbers [] = Some []
numbers (w ∷ ws) = numbers_from (number_of w) (numbers ws)

abbrev pub var : Word → Option ℕ → Option (List ℕ) → Option Var
var w None ns = None
var w (Some n) None = None
var w (Some n) (Some ns) = Some (record { name = w; size = n; starts = ns })

-- a name, a size, and one or more start values
abbrev pub declaration : List Word → Option Var
declaration [] = None
declaration (a ∷ []) = None
declaration (a ∷ b ∷ []) = None
declaration (a ∷ b ∷ s ∷ ss) = cond (is_name a) (var a (number_of b) (numbers (s ∷ ss))) None

-- each is below size, and above the one before, which is below low
abbrev pub rising : ℕ → ℕ → List ℕ → Bool
rising low size [] = true
rising low size (v ∷ vs) = nat_le low v && (nat_lt v size && rising (v + 1) size vs)

-- the product of the sizes: the number of states
abbrev pub product : List Var → ℕ
product [] = 1
product (v ∷ vs) = v.size * product vs

-- the line of a variable behind those of vs: 5 a size that is not 2 to 16, 6 a name that is taken, 8 start values that do not rise below the
-- size, 10 a product of the sizes that passes 4,096
abbrev pub variable : List Var → ℕ → List (List ℕ) → Read Var
variable vs n ls =
    then (line_of declaration n ls) (λ v m more.
    given (within 2 16 v.size) 5 m (
    given (bool.not (declared (names vs) v.name)) 6 m (
    given (rising 0 v.size v.starts) 8 m (
    given (nat_le (product vs * v.size) 4096) 10 m (got v m more)))))

abbrev pub section_variables : ℕ → List (List ℕ) → Read (List Var)
section_variables n ls = section (codes "variables") (within 1 12) variable n ls
