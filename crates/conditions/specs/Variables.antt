-- The variables that a text declares, and where a name stands among them.
use Rattle.std.specs.Prelude.{ℕ, zero, suc, Bool, cond, List, [], ◌∷◌, map, length, vec_items, nat_lt}
use Rattle.std.specs.Borrow.{Bor}
use Rattle.std.specs.Str.{bytes_eq}
use Rattle.words.specs.Words.{Word}
use Rattle.conditions.specs.declared.variable.Variable.{Variable}

pub record Var : Type 0 where
  pub name : Word
  pub size : ℕ
  pub starts : List ℕ

abbrev pub names : List Var → List Word
names [] = []
names (v ∷ vs) = v.name ∷ names vs

-- the place of w in a list, or the list's length where it is not there
abbrev pub place : List Word → Word → ℕ
place [] w = 0
place (v ∷ vs) w = cond (bytes_eq v w) 0 (suc (place vs w))

-- w is one of the names
abbrev pub declared : List Word → Word → Bool
declared ns w = nat_lt (place ns w) (length ns)

-- the size of the variable k, or 0
abbrev pub size_at : List Var → ℕ → ℕ
size_at [] k = 0
size_at (v ∷ vs) zero = v.size
size_at (v ∷ vs) (suc k) = size_at vs k

-- what a `Variable` of the code is, where `word` says which word its name is
abbrev pub var_with : {N : Type 0} → (N → Word) → Variable N → Var
var_with word v = record { name = word v.name; size = v.size; starts = vec_items v.starts }

-- a variable whose name is a part of the text
abbrev pub var_of : Variable (Bor Word) → Var
var_of v = var_with (λ name. name.now) v

abbrev pub vars_of : List (Variable (Bor Word)) → List Var
vars_of vs = map var_of vs

abbrev pub names_of : List (Variable (Bor Word)) → List Word
names_of vs = names (map var_of vs)
