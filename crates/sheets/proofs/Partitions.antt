-- What holds of the partition of every table of members.
use Rattle.std.proofs.Common.{◌≡◌, ℕ, ◌<◌, ◌≤◌, arith}
use Rattle.sheets.specs.Classes.{states, class}
use Rattle.sheets.specs.Members.{partition}
use Rattle.sheets.specs.declared.members.Members.{Members}
use Rattle.sheets.proofs.Tables.{table_states, table_class}

module _ (m : Members) where
  pub partition_states : states (partition m) ≡ m.states
  partition_states = table_states m.count m.states m.table (omega (arith, m.full, m.held))

  pub partition_held : states (partition m) ≤ 4096
  partition_held = omega (arith, partition_states, m.held)

  pub partition_few : m.count ≤ states (partition m)
  partition_few = omega (arith, partition_states, m.few)

  pub partition_below : (s : ℕ) → s < states (partition m) → class (partition m) s < m.count
  partition_below s h =
      let inside : s < m.states = omega (arith, partition_states) in
      omega (arith, table_class m.count m.states m.table s inside, m.below s inside)
