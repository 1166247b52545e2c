use Rattle.tuples.specs.Meaning.{sizes_of, clusters_of, count_of}
use Rattle.tuples.specs.Tuples.{tuple}
use Rattle.numbering.proofs.DigitLoops.{Adding}
use Rattle.columnsheet.specs.Joins.{counts_of, cluster_classes}
use Rattle.columnsheet.specs.Kept.{parts_of}
use Rattle.columnsheet.proofs.parts.Parts.number_of.Given as goal

abbrev pub invariant-loop-k : goal.invariant-loop-k
invariant-loop-k l =
    Adding (counts_of (count_of l.self.tuples) (parts_of l.self)) (cluster_classes (count_of l.self.tuples) (tuple (sizes_of l.self.tuples) (clusters_of l.self.tuples)) (parts_of l.self) l.s) l.k l.number
