-- A list of bytes cut at a byte: lines end in byte 10, words in a space.
use Rattle.std.specs.Prelude.{ℕ, cond, List, [], ◌∷◌, ◌==◌}

-- b in front of the first piece
abbrev pub glued : ℕ → List (List ℕ) → List (List ℕ)
glued b [] = (b ∷ []) ∷ []
glued b (w ∷ ws) = (b ∷ w) ∷ ws

-- the pieces that end in the byte e, which is in none of them; the last may lack its end
abbrev pub pieces : ℕ → List ℕ → List (List ℕ)
pieces e [] = []
pieces e (b ∷ bs) = cond (b == e) ([] ∷ pieces e bs) (glued b (pieces e bs))
