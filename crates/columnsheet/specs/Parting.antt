-- The tuples of a cluster parted by tests of states. Of a tuple a test says what it says of the lowest state with that tuple.
use Rattle.std.specs.Prelude.{◌≡◌, ℕ, ◌<◌, Bool, List, slice_index}
use Rattle.sheets.specs.Classes.{Classes}
use Rattle.tuples.specs.Meaning.{sizes_of, clusters_of}
use Rattle.tuples.specs.Tuples.{tuple, part}
use Rattle.tuples.specs.declared.tuple.Tuples.{Tuples}
use Rattle.columnsheet.specs.Kept.{Grouping}

-- the tuples that the cluster k has in s and in t have one class number in xs, and the test b says the same of both
abbrev pub SaidAlike : Tuples → ℕ → (ℕ → Bool) → List ℕ → ℕ → ℕ → Type 0
SaidAlike x k b xs s t =
    (slice_index xs (tuple (sizes_of x) (clusters_of x) k s) ≡ slice_index xs (tuple (sizes_of x) (clusters_of x) k t))
    × (b (part (sizes_of x) (clusters_of x) k s) ≡ b (part (sizes_of x) (clusters_of x) k t))

-- the same for each of the first m tests that are of the cluster
abbrev pub AllSaidAlike : Tuples → ℕ → ℕ → (ℕ → Type 0) → (ℕ → ℕ → Bool) → List ℕ → ℕ → ℕ → Type 0
AllSaidAlike x k m Of truth xs s t =
    (slice_index xs (tuple (sizes_of x) (clusters_of x) k s) ≡ slice_index xs (tuple (sizes_of x) (clusters_of x) k t))
    × ((i : ℕ) → i < m → Of i → truth i (part (sizes_of x) (clusters_of x) k s) ≡ truth i (part (sizes_of x) (clusters_of x) k t))

-- e is what the first m tests make of the partition d of the cluster k's tuples: two of one class stay together exactly if each test of the cluster says the same of both
abbrev pub Parted : Tuples → ℕ → ℕ → (ℕ → Type 0) → (ℕ → ℕ → Bool) → Classes → Classes → Type 0
Parted x k m Of truth d e = Grouping x k (AllSaidAlike x k m Of truth d.of) e
