-- The end of a text.
use Rattle.std.proofs.Common.{◌≡◌, ℕ, ◌+◌, Bool, true, false, List, [], ◌∷◌, arith}
use Rattle.words.specs.Reading.{Read, got, refused, given, next_line, ending}
use Rattle.words.specs.Texts.{is_line}
use Rattle.words.specs.Words.{words}
use Rattle.words.proofs.PieceFacts.{Full}

flip : {A B : Type 0} (b : Bool) (m item at : ℕ) (a : A) (n : ℕ) (ls : List (List ℕ)) (x : Read B) → given b 3 m (got a n ls) ≡ refused item at → given b 3 m x ≡ refused item at
flip true m item at a n ls x e = let z : ◌≡◌ {A = ℕ} 0 1 = cc in absurd (omega arith)
flip false m item at a n ls x e =
    let i : ◌≡◌ {A = ℕ} 3 item = cc in
    let k : m ≡ at = cc in
    λ j. refused (i j) (k j)

-- a line that is none is refused at the end as anywhere
pub ending_bad : (n : ℕ) (ls : List (List ℕ)) (item at : ℕ) → Full ls → next_line n ls ≡ refused item at → ending n ls ≡ refused item at
ending_bad n [] item at full e = absurd full
ending_bad n (l ∷ ls) item at full e = flip (is_line l) (n + 1) item at (words l) (n + 1) ls (refused 11 (n + 1)) e
