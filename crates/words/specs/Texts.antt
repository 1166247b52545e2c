-- Which bytes are a text, and which a line.
use Rattle.std.specs.Prelude.{ℕ, ◌-◌, Bool, true, false, cond, not, ◌&&◌, ◌||◌, List, [], ◌∷◌, length, ◌==◌, nat_le, nat_lt, slice_index}
use Rattle.words.specs.Words.{each, within}

-- a byte of a text: the end of a line, or printable
abbrev pub plain : ℕ → Bool
plain b = b == 10 || within 32 126 b

-- a text: 1 to 8,192 plain bytes, the last of which ends a line
abbrev pub is_text : List ℕ → Bool
is_text t = nat_lt 0 (length t) && (nat_le (length t) 8192 && (slice_index t (length t - 1) == 10 && each plain t))

-- no space stands first, last or behind another; `after` says that a space, or the line's start, stands before
abbrev pub spaced : Bool → List ℕ → Bool
spaced after [] = not after
spaced after (b ∷ bs) = cond (b == 32) (not after && spaced true bs) (spaced false bs)

-- a line, without the byte that ends it: 1 to 120 bytes, its words one space apart
abbrev pub is_line : List ℕ → Bool
is_line l = nat_le (length l) 120 && spaced true l
