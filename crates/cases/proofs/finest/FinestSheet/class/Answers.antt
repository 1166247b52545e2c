use Rattle.std.proofs.Common.{◌+◌, sym, arith}
use Rattle.cases.proofs.FinestFacts.{finest_at, finest_past}
use Rattle.cases.proofs.finest.FinestSheet.class.Goals as goal

pub returns-then-s-from : goal.returns-then-s-from
returns-then-s-from c = sym (finest_at (c.args.self.now.last + 1) c.args.s (omega (arith, c.if-s-from.true, c.from.ensures)))

pub returns-else-s-from : goal.returns-else-s-from
returns-else-s-from c = sym (finest_past (c.args.self.now.last + 1) c.args.s (omega (arith, c.if-s-from.false, c.from.ensures)))
