-- The words of a line: names and numbers.
use Rattle.std.specs.Prelude.{ℕ, ◌+◌, ◌-◌, ◌*◌, Bool, true, false, cond, not, ◌&&◌, ◌||◌, List, [], ◌∷◌, length, Some, None, codes, Option, ◌==◌, nat_le, nat_lt, slice_index}
use Rattle.std.specs.Str.{bytes_eq}
use Rattle.words.specs.Pieces.{pieces}

abbrev pub Word : Type 0
Word = List ℕ

-- the words of a line, which stand a space apart
abbrev pub words : List ℕ → List Word
words bs = pieces 32 bs

-- the first word is w
abbrev pub opens_with : Word → List Word → Bool
opens_with w [] = false
opens_with w (v ∷ vs) = bytes_eq v w

abbrev pub after_first : List Word → List Word
after_first [] = []
after_first (v ∷ vs) = vs

abbrev pub each : {A : Type 0} → (A → Bool) → List A → Bool
each f [] = true
each f (b ∷ bs) = f b && each f bs

abbrev pub within : ℕ → ℕ → ℕ → Bool
within low high b = nat_le low b && nat_le b high

abbrev pub letter : ℕ → Bool
letter b = within 97 122 b

abbrev pub digit : ℕ → Bool
digit b = within 48 57 b

abbrev pub reserved : Word → Bool
reserved w = bytes_eq w (codes "always") || (bytes_eq w (codes "and") || (bytes_eq w (codes "or") || bytes_eq w (codes "not")))

-- a name: 1 to 8 letters a to z, and no reserved word
abbrev pub is_name : Word → Bool
is_name w = nat_lt 0 (length w) && (nat_le (length w) 8 && (each letter w && not (reserved w)))

-- the number that digits write, behind those that wrote n
abbrev pub decimal : ℕ → Word → ℕ
decimal n [] = n
decimal n (b ∷ bs) = decimal (n * 10 + (b - 48)) bs

-- a number: 1 to 4 digits, the first of several not 0
abbrev pub is_number : Word → Bool
is_number w = nat_lt 0 (length w) && (nat_le (length w) 4 && (each digit w && (nat_le (length w) 1 || not (slice_index w 0 == 48))))

abbrev pub number_of : Word → Option ℕ
number_of w = cond (is_number w) (Some (decimal 0 w)) None
