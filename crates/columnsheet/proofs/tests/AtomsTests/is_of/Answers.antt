use Rattle.std.proofs.Common.{length, rules, refl, ap, arith}
use borrow.Author.Tests.{tests}
use Rattle.std.proofs.lemmas.Iterator.{YieldsList-from_range, cases_from_any}
use Rattle.clusters.specs.Shapes.{sizes_in, partition}
use Rattle.clusters.proofs.Own.{own_shape}
use Rattle.columnsheet.proofs.FirstFacts.{ReadsThere, reads_decides}
use Rattle.columnsheet.proofs.tests.AtomsTests.is_of.Goals as goal

pub returns : goal.returns
returns g c =
    let columns = g.C.ColumnedSource.columns c.args.self.now.source.now in
    let p = partition c.args.tuples.now.clusters in
    reads_decides columns p c.args.k c.args.test c.variables.result c.any.result (omega (arith, c.variables.ensures.tells, ap (λ x. length (sizes_in x)) c.clusters-clusters.ensures, (own_shape c.args.tuples.now.clusters).each))
    (cases_from_any _ _ _ (ReadsThere columns p c.args.k c.args.test) (λ v. ReadsThere columns p c.args.k c.args.test v → ⊥) c.any.ensures.ran (YieldsList-from_range 0 c.variables.result c.variables.result refl (omega arith)) (λ v q k. search (rules, tests)) (λ v q k. search (rules, tests)))
