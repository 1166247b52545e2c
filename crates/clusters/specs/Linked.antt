-- Clusters of variables: those that a chain of atoms links.
use Rattle.std.specs.Prelude.{◌≡◌, ℕ, ◌<◌, Bool, true, ◌↔◌, length}
use Rattle.columns.specs.Columns.{Columns}
use Rattle.sheets.specs.Classes.{Classes, states, class, Lawful}
use Rattle.sheets.specs.Whole.{Numbered}

-- a chain of atoms leads from one variable to another: each atom of it reads a variable of the chain and the next one
pub data Linked (reads : ℕ → ℕ → Bool) : ℕ → ℕ → Type 0 where
  alone : (v : ℕ) → Linked reads v v
  along : {v w x : ℕ} (atom : ℕ) → Linked reads v w → reads atom w ≡ true → reads atom x ≡ true → Linked reads v x

-- The clusters are a partition of the variables: two stand in one cluster exactly if they are linked, so that a variable which no atom reads is alone.
-- They are numbered in the order of their first variables.
pub record Clustered (c : Columns) (p : Classes) : Type 0 where
  pub lawful : Lawful p
  pub variables_are : states p ≡ length c.sizes
  pub together : (v w : ℕ) → v < states p → w < states p → (class p v ≡ class p w) ↔ Linked c.reads v w
  pub numbered : Numbered p
