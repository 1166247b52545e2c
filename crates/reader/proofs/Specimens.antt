-- Texts that are read, and texts that are refused, by computing what the format demands.
use Rattle.std.proofs.Common.{◌≡◌, ℕ, List, [], ◌∷◌, ◌++◌, codes, refl}
use Prim.Native.String.{String}
use Rattle.words.specs.Reading.{Read, got, refused}
use Rattle.reader.specs.RuleSets.{RuleSet}
use Rattle.reader.specs.WholeTexts.{read_text}

-- lines, each with its end
abbrev text : List String → List ℕ
text [] = []
text (s ∷ ss) = codes s ++ (10 ∷ text ss)

-- the number and the place of a refusal; 0 and the number of lines where the text is read
abbrev outcome : Read RuleSet → ℕ × ℕ
outcome (got r n ls) = (0, n)
outcome (refused number place) = (number, place)

abbrev of_lines : List String → ℕ × ℕ
of_lines ss = outcome (read_text (text ss))

abbrev days : List String
days = "variables 3" ∷ "day 3 1" ∷ "kept 3 1" ∷ "full 2 0" ∷ "blocks 3" ∷ "day 1" ∷ "always : day , day + 1" ∷ "kept 1" ∷ "full = 0 : day" ∷ "full 1" ∷ "full = 0 : 0 , 1" ∷ "breaks 1" ∷ "full = 1 and not kept = day" ∷ []

-- one variable, and a block of one line
abbrev one_line : String → List String
one_line s = "variables 1" ∷ "x 4 0" ∷ "blocks 1" ∷ "x 1" ∷ s ∷ []

is_read : of_lines days ≡ (0, 13)
is_read = refl

odd_names : of_lines ("variables 2" ∷ "blocks 2 0" ∷ "breaks 16 0 9 15" ∷ "blocks 2" ∷ "blocks 0" ∷ "breaks 0" ∷ "breaks 0" ∷ []) ≡ (0, 7)
odd_names = refl

empty : outcome (read_text []) ≡ (1, 0)
empty = refl

not_ended : outcome (read_text (codes "variables 1")) ≡ (1, 0)
not_ended = refl

missing : of_lines ("variables 1" ∷ "x 4 0" ∷ []) ≡ (2, 3)
missing = refl

double_space : of_lines ("variables  1" ∷ []) ≡ (3, 1)
double_space = refl

empty_line : of_lines ("variables 1" ∷ "" ∷ []) ≡ (3, 2)
empty_line = refl

glued : of_lines (one_line "x=3 : 0") ≡ (4, 5)
glued = refl

empty_brackets : of_lines (one_line "( ) : 0") ≡ (4, 5)
empty_brackets = refl

five_digits : of_lines (one_line "x = 12345 : 0") ≡ (4, 5)
five_digits = refl

leading_zero : of_lines ("variables 01" ∷ []) ≡ (4, 1)
leading_zero = refl

size_17 : of_lines ("variables 1" ∷ "x 17 0" ∷ []) ≡ (5, 2)
size_17 = refl

block_count : of_lines ("variables 1" ∷ "x 2 0" ∷ "blocks 2" ∷ []) ≡ (5, 3)
block_count = refl

twice : of_lines ("variables 2" ∷ "x 4 0" ∷ "x 3 0" ∷ []) ≡ (6, 3)
twice = refl

-- the form of the whole line comes before its names
undeclared : of_lines (one_line "not not y = 0 : 9") ≡ (7, 5)
undeclared = refl

form_first : of_lines (one_line "y = 0 : 9 ,") ≡ (4, 5)
form_first = refl

equal_starts : of_lines ("variables 1" ∷ "x 4 1 1" ∷ []) ≡ (8, 2)
equal_starts = refl

result_4 : of_lines (one_line "( always ) : 4") ≡ (8, 5)
result_4 = refl

larger : of_lines ("variables 2" ∷ "x 4 0" ∷ "y 3 0" ∷ "blocks 2" ∷ "x 0" ∷ "y 1" ∷ "( not x < y or always ) and y = 0 : x + 1" ∷ []) ≡ (9, 7)
larger = refl

product : of_lines ("variables 4" ∷ "a 16 0" ∷ "b 16 0" ∷ "c 16 0" ∷ "d 2 0" ∷ []) ≡ (10, 5)
product = refl

extra : of_lines (days ++ "x" ∷ []) ≡ (11, 14)
extra = refl

extra_bad : of_lines (days ++ "x " ∷ []) ≡ (3, 14)
extra_bad = refl
