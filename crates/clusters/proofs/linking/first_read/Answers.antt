use Rattle.std.proofs.Common.{◌≡◌, ℕ, Bool, true, false, rules}
use Rattle.std.proofs.lemmas.Iterator.{first_from_Range}
use Rattle.clusters.proofs.linking.first_read.Goals as goal

pub returns : goal.returns
returns g c =
    let reads : ℕ → Bool = (g.C.ColumnedSource.columns c.args.source.now).reads c.args.atom in
    let found = first_from_Range (record { start = 0; end = c.args.n }) _ _ c.find.result (λ v. reads v ≡ true) (λ v. reads v ≡ false) c.find.ensures.ran (λ v q k. search rules) (λ v q k. search rules) in
    search rules
