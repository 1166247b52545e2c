-- The steps of finding the clusters: each variable has a label, and variables that are found to be linked get one label.
use Rattle.std.specs.Prelude.{◌≡◌, ℕ, ◌<◌, Bool, true, cond, List, length, ◌==◌, slice_index}
use Rattle.clusters.specs.Linked.{Linked}

-- what the label x becomes where the label `from` is merged into `to`
abbrev pub relabelled : ℕ → ℕ → ℕ → ℕ
relabelled from to x = cond (x == from) to x

-- Labels for 12 variables, themselves numbers below 12. Only linked variables have one label.
pub record Labelled (reads : ℕ → ℕ → Bool) (xs : List ℕ) : Type 0 where
  pub each : length xs ≡ 12
  pub small : (v : ℕ) → v < 12 → slice_index xs v < 12
  pub linked : (v w : ℕ) → v < 12 → w < 12 → slice_index xs v ≡ slice_index xs w → Linked reads v w

-- variables of one label in xs have one label in ys
abbrev pub Coarser : List ℕ → List ℕ → Type 0
Coarser xs ys = (v w : ℕ) → v < 12 → w < 12 → slice_index xs v ≡ slice_index xs w → slice_index ys v ≡ slice_index ys w

-- those of the first n variables that an atom reads have one label
abbrev pub OneLabel : (ℕ → Bool) → ℕ → List ℕ → Type 0
OneLabel reads n xs = (v w : ℕ) → v < n → w < n → reads v ≡ true → reads w ≡ true → slice_index xs v ≡ slice_index xs w
