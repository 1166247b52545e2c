-- States made of values: each variable has its size, and a state gives each variable a value below it.
use Rattle.std.specs.Prelude.{◌≡◌, ℕ, zero, suc, ◌+◌, ◌*◌, ◌/◌, ◌%◌, ◌<◌, ◌≤◌, Bool, true, false, cond, ◌&&◌, List, [], ◌∷◌, length, Some, None, Option, nat_lt, slice_index}
use Rattle.rules.specs.Rules.{Rules}

-- ── Numbers and values ──

-- how many states variables of these sizes make
abbrev pub product : List ℕ → ℕ
product [] = 1
product (d ∷ ds) = d * product ds

-- The number of the state with these values: at the sizes d1, d2, d3 it is (v1 × d2 + v2) × d3 + v3, and so on. An absent value counts as 0.
abbrev pub number : List ℕ → List ℕ → ℕ
number [] vs = 0
number (d ∷ ds) [] = 0
number (d ∷ ds) (v ∷ vs) = v * product ds + number ds vs

-- the values of the state s, the first variable's first
abbrev pub values : List ℕ → ℕ → List ℕ
values [] s = []
values (d ∷ ds) s = s / product ds ∷ values ds (s % product ds)

-- the value of the variable v in the state s; 0 of a number that is no variable
abbrev pub value : List ℕ → ℕ → ℕ → ℕ
value ds s v = slice_index (values ds s) v

-- as many values as sizes, and each is below its size
abbrev pub fit : List ℕ → List ℕ → Bool
fit [] [] = true
fit [] (v ∷ vs) = false
fit (d ∷ ds) [] = false
fit (d ∷ ds) (v ∷ vs) = nat_lt v d && fit ds vs

-- each number below n passes the test
abbrev pub each_below : ℕ → (ℕ → Bool) → Bool
each_below zero p = true
each_below (suc n) p = p 0 && each_below n (λ k. p (suc k))

-- each variable's value in the state s passes the variable's test
abbrev pub every_value : List ℕ → (ℕ → ℕ → Bool) → ℕ → Bool
every_value ds q s = each_below (length ds) (λ v. q v (value ds s v))

-- ── What a columned source tells ──

-- The atoms are numbered from 0: `truth s a` says whether the atom a is true in the state s, `reads a v` whether it reads the variable v.
pub record Columns : Type 0 where
  pub sizes : List ℕ
  pub atoms : ℕ
  pub truth : ℕ → ℕ → Bool
  pub reads : ℕ → ℕ → Bool

abbrev pub width_at : Columns → ℕ → Option ℕ
width_at c v = cond (nat_lt v (length c.sizes)) (Some (slice_index c.sizes v)) None

abbrev pub value_at : Columns → ℕ → ℕ → Option ℕ
value_at c s v = cond (nat_lt s (product c.sizes) && nat_lt v (length c.sizes)) (Some (value c.sizes s v)) None

-- The variables and atoms fit the rules. `depends` is the law: two states that agree on what an atom reads agree on the atom.
pub record Columned (r : Rules) (c : Columns) : Type 0 where
  pub some : 1 ≤ length c.sizes
  pub most : length c.sizes ≤ 12
  pub wide : (v : ℕ) → v < length c.sizes → 2 ≤ slice_index c.sizes v
  pub states : product c.sizes ≡ r.size
  pub truth_state : (s a : ℕ) → c.truth s a ≡ true → s < r.size
  pub truth_atom : (s a : ℕ) → c.truth s a ≡ true → a < c.atoms
  pub reads_atom : (a v : ℕ) → c.reads a v ≡ true → a < c.atoms
  pub reads_variable : (a v : ℕ) → c.reads a v ≡ true → v < length c.sizes
  pub depends : (s t a : ℕ) → s < r.size → t < r.size → ((v : ℕ) → c.reads a v ≡ true → value c.sizes s v ≡ value c.sizes t v) → c.truth s a ≡ c.truth t a
