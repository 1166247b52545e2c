-- A product of tuple sets, by what is used of it: the states below n, the clusters below m, each with `width k` tuples.
use Rattle.std.proofs.Common.{◌≡◌, ℕ, ◌+◌, ◌-◌, ◌<◌, ◌≤◌, ◌≢◌}

pub record Grid (n m : ℕ) (width : ℕ → ℕ) (tuple part : ℕ → ℕ → ℕ) : Type 0 where
  -- every state has a tuple of each cluster, and every tuple is that of some state
  pub below : (k s : ℕ) → k < m → s < n → tuple k s < width k
  pub met : (k t : ℕ) → k < m → t < width k → (s : ℕ) × (s < n) × (tuple k s ≡ t)
  -- a state is known by its tuples
  pub one : (s u : ℕ) → s < n → u < n → ((k : ℕ) → k < m → tuple k s ≡ tuple k u) → s ≡ u
  -- the part of a state in a cluster goes by its tuple, and has that tuple itself
  pub part_most : (k s : ℕ) → s < n → part k s ≤ s
  pub part_same : (k s u : ℕ) → k < m → s < n → u < n → tuple k s ≡ tuple k u → part k s ≡ part k u
  pub part_tuple : (k s : ℕ) → k < m → s < n → tuple k (part k s) ≡ tuple k s
  -- the part in k of a state's part in k is itself
  pub part_part : (k s : ℕ) → k < m → s < n → part k (part k s) ≡ part k s
  -- s with the tuple of u in the cluster k
  pub mixed_below : (k s u : ℕ) → k < m → s < n → u < n → s - part k s + part k u < n
  pub mixed_in : (k s u : ℕ) → k < m → s < n → u < n → tuple k (s - part k s + part k u) ≡ tuple k u
  pub mixed_out : (k j s u : ℕ) → k < m → j < m → j ≢ k → s < n → u < n → tuple j (s - part k s + part k u) ≡ tuple j s
