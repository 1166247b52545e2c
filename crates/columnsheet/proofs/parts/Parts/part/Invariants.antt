use Rattle.std.proofs.Common.{◌≡◌}
use Rattle.tuples.specs.Meaning.{sizes_of, clusters_of}
use Rattle.tuples.specs.Tuples.{tuples_before}
use Rattle.columnsheet.proofs.PieceFacts.{Renewed}
use Rattle.columnsheet.proofs.PartLoops.{Parting}
use Rattle.columnsheet.proofs.parts.Parts.part.Given as goal

abbrev pub invariant-loop-k : goal.invariant-loop-k
invariant-loop-k g l =
    (l.self.tuples ≡ l.initial.self.tuples)
    × Renewed (tuples_before (sizes_of l.self.tuples) (clusters_of l.self.tuples)) (Parting l.self.tuples (g.T.Tests.tests l.tests) (g.T.Tests.Of l.tests) (g.T.Tests.truth l.tests)) l.initial.self.classes l.initial.self.counts l.self.classes l.self.counts l.k
