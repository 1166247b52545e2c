use Rattle.std.proofs.Common.{refl}
use Rattle.tuples.specs.Meaning.{count_of}
use Rattle.columnsheet.proofs.OwnTuples.{all_from_lawful, one_class, one_lawful}
use Rattle.columnsheet.proofs.parts.Parts.new.Goals as goal

pub invariant_of-result : goal.invariant_of-result
invariant_of-result c = record { long = refl; each = refl; lawful = all_from_lawful (count_of c.args.tuples) _ (one_lawful c.args.tuples) }

pub returns-clause-one : goal.returns-clause-one
returns-clause-one c = λ k t hk h. one_class c.args.tuples k hk t h
