use Rattle.std.proofs.Common.{take}
use Rattle.sheets.specs.Links.{Linked}
use Rattle.sheets.proofs.members.build.link.Given as goal

abbrev pub invariant-loop-s : goal.invariant-loop-s
invariant-loop-s l = Linked (take l.n l.table) l.s l.first l.after
