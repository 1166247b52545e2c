use Rattle.std.proofs.Common.{ℕ, ◌+◌, ◌<◌, get_or, sym, ap, subst, ◌∙◌, arith}
use Rattle.std.proofs.lemmas.List.{length-set}
use Rattle.std.proofs.lemmas.List.Edits.{length-between}
use Rattle.tuples.specs.Meaning.{sizes_of, clusters_of, count_of}
use Rattle.tuples.specs.Tuples.{tuples_before}
use Rattle.tuples.proofs.Widths.{before_rises}
use Rattle.sheets.specs.Classes.{Lawful}
use Rattle.columnsheet.specs.Groups.{piece, held}
use Rattle.columnsheet.proofs.OwnTuples.{own_small, own_lawful, all_from_lawful}
use Rattle.columnsheet.proofs.PartLoops.{Parting, own_renewed}
use Rattle.columnsheet.proofs.PieceFacts.{renewed_lawful}
use Rattle.columnsheet.proofs.parts.Parts.part.Goals as goal

pub part_cluster-requires-clause-small : goal.part_cluster-requires-clause-small
part_cluster-requires-clause-small g c =
    let p = c.loop-k.self in
    let k = c.loop-k.k in
    let told = c.places_of-places.ensures in
    let hk : k < count_of p.tuples = subst (λ x. k < count_of x) (sym c.loop-k.invariant.0) (omega arith) in
    λ t h. omega (arith, ap (λ l. get_or l t 0) (λ j. piece (told.starts j) (told.ends j) p.classes), own_small p k hk t (omega (arith, told.wide, length-between p.classes c.places_of-places.result.start c.places_of-places.result.end (omega (arith, told.inside, p.long)))))

pub invariant_of-self-in-loop-k-clause-each : goal.invariant_of-self-in-loop-k-clause-each
invariant_of-self-in-loop-k-clause-each g c = length-set c.loop-k.self.counts c.loop-k.k c.part_cluster.result ∙ c.loop-k.self.each

pub invariant_of-self-in-loop-k-clause-lawful : goal.invariant_of-self-in-loop-k-clause-lawful
invariant_of-self-in-loop-k-clause-lawful g c =
    let x = c.loop-k.self.tuples in
    all_from_lawful (count_of x) _ (renewed_lawful (tuples_before (sizes_of x) (clusters_of x)) (before_rises (sizes_of x) (clusters_of x)) (Parting x (g.T.Tests.tests c.args.tests.now) (g.T.Tests.Of c.args.tests.now) (g.T.Tests.truth c.args.tests.now)) c.args.self.now.classes c.args.self.now.counts _ _ (c.loop-k.k + 1)
    (own_renewed c.loop-k.self (Parting x (g.T.Tests.tests c.args.tests.now) (g.T.Tests.Of c.args.tests.now) (g.T.Tests.truth c.args.tests.now)) _ _ c.loop-k.k _ _ _ c.part_cluster.result (subst (λ x. c.loop-k.k < count_of x) (sym c.loop-k.invariant.0) (omega arith)) c.places_of-places.ensures.starts c.places_of-places.ensures.ends c.part_cluster.auto.classes c.loop-k.invariant.1 c.part_cluster.ensures)
    (count_of x) (λ k d e h parted. parted.lawful) (subst (λ y. (k : ℕ) → k < count_of y → Lawful (held (sizes_of y) (clusters_of y) c.args.self.now.classes c.args.self.now.counts k)) (sym c.loop-k.invariant.0) (own_lawful c.args.self.now)))

pub loop-k-preserved : goal.loop-k-preserved
loop-k-preserved g c = (
  c.loop-k.invariant.0,
  own_renewed c.loop-k.self (Parting c.loop-k.self.tuples (g.T.Tests.tests c.args.tests.now) (g.T.Tests.Of c.args.tests.now) (g.T.Tests.truth c.args.tests.now)) _ _ c.loop-k.k _ _ _ c.part_cluster.result (subst (λ x. c.loop-k.k < count_of x) (sym c.loop-k.invariant.0) (omega arith)) c.places_of-places.ensures.starts c.places_of-places.ensures.ends c.part_cluster.auto.classes c.loop-k.invariant.1 c.part_cluster.ensures,
)
