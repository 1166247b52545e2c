use Rattle.std.proofs.Common.{length}
use Rattle.numbering.specs.Numbers.{sizes_in}
use Rattle.numbering.proofs.DigitLoops.{Adding}
use Rattle.numbering.proofs.sizes.Sizes.number.Given as goal

abbrev pub invariant-loop-value : goal.invariant-loop-value
invariant-loop-value l = Adding (sizes_in l.self) l.given (length l.yielded) l.n
