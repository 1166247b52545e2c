use Rattle.numbering.specs.Numbers.{sizes_in}
use Rattle.numbering.proofs.DigitLoops.{Splitting}
use Rattle.numbering.proofs.sizes.Sizes.values.Given as goal

abbrev pub invariant-loop-i : goal.invariant-loop-i
invariant-loop-i l = Splitting (sizes_in l.self) l.s l.each l.i l.w l.rest
