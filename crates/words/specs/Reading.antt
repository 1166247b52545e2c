-- Reading, line by line: what was read, how many lines were taken so far and the lines left, or the number and the place of a refusal.
use Rattle.std.specs.Prelude.{ℕ, ◌+◌, Bool, true, false, cond, List, [], ◌∷◌, Some, None, Option}
use Rattle.std.specs.Str.{bytes_eq}
use Rattle.words.specs.Texts.{is_line}
use Rattle.words.specs.Words.{Word, words, number_of}

pub data Read (A : Type 0) : Type 0 where
  got : A → ℕ → List (List ℕ) → Read A
  refused : ℕ → ℕ → Read A

-- one thing behind another: the first refusal decides
abbrev pub then : {A B : Type 0} → Read A → (A → ℕ → List (List ℕ) → Read B) → Read B
then (got a n ls) f = f a n ls
then (refused number place) f = refused number place

-- refused under a number at the line n, unless a test passes
abbrev pub given : {B : Type 0} → Bool → ℕ → ℕ → Read B → Read B
given true number n x = x
given false number n x = refused number n

-- refused under 4 at the line n, which lacks the form of its place
abbrev pub formed : {A B : Type 0} → Option A → ℕ → (A → Read B) → Read B
formed None n f = refused 4 n
formed (Some a) n f = f a

-- the words of the next line, of which n stand before; 2 where there is none
abbrev pub next_line : ℕ → List (List ℕ) → Read (List Word)
next_line n [] = refused 2 (n + 1)
next_line n (l ∷ ls) = given (is_line l) 3 (n + 1) (got (words l) (n + 1) ls)

-- what the next line says, which has to be of a form
abbrev pub line_of : {A : Type 0} → (List Word → Option A) → ℕ → List (List ℕ) → Read A
line_of form n ls = then (next_line n ls) (λ ws m more. formed (form ws) m (λ a. got a m more))

-- a heading: an opening word and a count
abbrev pub headed : Word → List Word → Option ℕ
headed w [] = None
headed w (a ∷ []) = None
headed w (a ∷ b ∷ []) = cond (bytes_eq a w) (number_of b) None
headed w (a ∷ b ∷ c ∷ ws) = None

-- nothing follows: 3 where the next line is none, else 11
abbrev pub ending : ℕ → List (List ℕ) → Read (Unit {0})
ending n [] = got tt n []
ending n (l ∷ ls) = given (is_line l) 3 (n + 1) (refused 11 (n + 1))
