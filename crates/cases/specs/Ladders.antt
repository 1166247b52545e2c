-- What a ladder means.
use Rattle.std.specs.Prelude.{ℕ, ◌+◌, ◌&&◌, ◌==◌, nat_lt}
use Rattle.rules.specs.Rules.{Rules}

-- It starts at rung 0, steps from each rung below the top to the next, and breaks at the top.
abbrev pub ladder : ℕ → Rules
ladder top = record {
  size = top + 1;
  starts = λ s. s == 0;
  breaks = λ s. s == top;
  steps = λ s t. nat_lt s top && t == s + 1;
}
