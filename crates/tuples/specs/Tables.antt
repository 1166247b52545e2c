-- One table for the tuples of all clusters: those of a cluster stand behind those of the clusters before it.
use Rattle.std.specs.Prelude.{◌≡◌, ℕ, ◌+◌, ◌<◌, ◌≤◌, Bool, List, length, ◌≢◌, nat_eq, slice_index}
use Rattle.columns.specs.Columns.{product, each_below}
use Rattle.tuples.specs.Tuples.{tuple, width, tuples_before, part}

-- where the tuple stands that the cluster k has in the state s
abbrev pub place : List ℕ → List ℕ → ℕ → ℕ → ℕ
place ds cs s k = tuples_before ds cs k + tuple ds cs k s

-- at the place of each tuple of the first m clusters stands the lowest state with that tuple
abbrev pub lowest_kept : List ℕ → List ℕ → ℕ → List ℕ → Bool
lowest_kept ds cs m table = each_below m (λ k. each_below (product ds) (λ s. nat_eq (slice_index table (place ds cs s k)) (part ds cs k s)))

-- starts has where the tuples of each cluster stand and where those of the last end, at most 1024 in all
pub record Started (ds cs : List ℕ) (m : ℕ) (starts : List ℕ) : Type 0 where
  pub each : (k : ℕ) → k ≤ m → slice_index starts k ≡ tuples_before ds cs k
  pub most : tuples_before ds cs m ≤ 1024

-- s is written at the places of the first m clusters, and what stands elsewhere is kept
pub record Written (at : ℕ → ℕ) (m s : ℕ) (before after : List ℕ) : Type 0 where
  pub long : length after ≡ length before
  pub put : (k : ℕ) → k < m → slice_index after (at k) ≡ s
  pub kept : (p : ℕ) → ((k : ℕ) → k < m → p ≢ at k) → slice_index after p ≡ slice_index before p

-- r is the lowest state with the tuple t of the cluster k, or 0 where there is no such cluster or tuple
pub record LowestTuple (ds cs : List ℕ) (m k t r : ℕ) : Type 0 where
  pub found : (s : ℕ) → k < m → s < product ds → tuple ds cs k s ≡ t → r ≡ part ds cs k s
  pub none : (k < m → t < width ds cs k → ⊥) → r ≡ 0
