use Rattle.std.proofs.Common.{◌≡◌, List, ◌++◌, length, Some, None, Option, vec_items}
use Rattle.words.specs.Lines.{left}
use Rattle.reader.specs.VariableLines.{numbers}
use Rattle.reader.proofs.variables.numbers.Given as goal

-- what is read behind xs
abbrev behind : {A : Type 0} → List A → Option (List A) → Option (List A)
behind xs None = None
behind xs (Some ys) = Some (xs ++ ys)

abbrev pub invariant-loop-token : goal.invariant-loop-token
invariant-loop-token l = behind (vec_items l.out) (numbers (left l.line)) ≡ numbers (left l.initial.line)

abbrev pub decreases-loop-token : goal.decreases-loop-token
decreases-loop-token l = length (left l.line)
