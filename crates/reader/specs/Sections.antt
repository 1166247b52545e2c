-- A section of a text: a heading, and as many parts as it says.
use Rattle.std.specs.Prelude.{ℕ, zero, suc, Bool, List, [], ◌∷◌, ◌++◌}
use Rattle.words.specs.Reading.{Read, got, then, given, line_of, headed}
use Rattle.words.specs.Words.{Word}

-- k times what a step reads, behind what was read before
abbrev pub many : {A : Type 0} → (List A → ℕ → List (List ℕ) → Read A) → ℕ → List A → ℕ → List (List ℕ) → Read (List A)
many step zero xs n ls = got xs n ls
many step (suc k) xs n ls = then (step xs n ls) (λ x m more. many step k (xs ++ x ∷ []) m more)

-- an opening word and a count that passes a test, else 5; then that many parts
abbrev pub section : {A : Type 0} → Word → (ℕ → Bool) → (List A → ℕ → List (List ℕ) → Read A) → ℕ → List (List ℕ) → Read (List A)
section w ok step n ls = then (line_of (headed w) n ls) (λ k m more. given (ok k) 5 m (many step k [] m more))
