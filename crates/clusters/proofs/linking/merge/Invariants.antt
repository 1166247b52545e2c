use Rattle.std.proofs.Common.{◌≡◌, ℕ, ◌<◌, ◌≤◌, get_or}
use Rattle.clusters.specs.Labels.{relabelled}
use Rattle.clusters.proofs.linking.merge.Given as goal

abbrev pub invariant-loop-label : goal.invariant-loop-label
invariant-loop-label l = record {
  done : (k : ℕ) → k < l.label-index → get_or l.labels k 0 ≡ relabelled l.from l.to (get_or l.initial.labels k 0);
  rest : (k : ℕ) → l.label-index ≤ k → get_or l.labels k 0 ≡ get_or l.initial.labels k 0;
}
