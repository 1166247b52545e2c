use Rattle.std.proofs.Common.{◌≡◌, Some, sym, subst, arith}
use Rattle.std.proofs.lemmas.Option.{MatchOption-at_some}
use Rattle.clusters.specs.Makes.{ClustersOf}
use Rattle.columnsheet.proofs.SheetFacts.{first_sheet}
use Rattle.columnsheet.proofs.sheet.ColumnSheet.new.Goals as goal

pub returns : goal.returns
returns g c =
    let columns = g.C.ColumnedSource.columns c.args.source.now in
    let x = c.in_ok-tuples.tuples in
    let found : c.new-2.result ≡ Some x = grind arith in
    let of : x.clusters ≡ c.new.result = MatchOption-at_some _ _ x found c.new-2.ensures in
    first_sheet (g.C.RuleSource.rules c.args.source.now) columns x c.new-parts.result c.part.new.self c.new.ensures.columned (subst (ClustersOf columns) (sym of) c.new.ensures.made) c.new-parts.ensures.same c.part.ensures.same c.new-parts.ensures.one c.part.ensures.parted
