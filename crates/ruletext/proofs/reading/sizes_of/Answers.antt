use Rattle.std.proofs.Common.{rules}
use Rattle.std.proofs.iter.runs.Made.{chains}
use Rattle.std.proofs.lemmas.Simd.{map-map}
use Rattle.ruletext.proofs.reading.sizes_of.Goals as goal

pub returns : goal.returns
returns c = rw map-map (search (rules, chains))
