use Rattle.std.proofs.Common.{sym, ◌∙◌}
use Rattle.std.proofs.lemmas.Bool.{eqb-true, eq-eqb}
use Rattle.columnsheet.proofs.JoinLoops.{part_is}
use Rattle.columnsheet.proofs.tests.DeathsTests.is_of.Goals as goal

pub returns : goal.returns
returns c =
    let told = part_is c.args.tuples.now c.args.k c.requires.cluster c.args.test c.from.result c.lowest.result c.requires.known (c.from.ensures ∙ c.of.ensures.tells c.args.k) c.lowest.ensures in
    ((λ e. sym told ∙ eqb-true c.lowest.result 0 e), (λ e. eq-eqb c.lowest.result 0 (told ∙ e)))
