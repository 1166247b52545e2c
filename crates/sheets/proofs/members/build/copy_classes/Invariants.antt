use Rattle.std.proofs.Common.{◌≡◌, take}
use Rattle.sheets.proofs.members.build.copy_classes.Given as goal

abbrev pub invariant-loop-s : goal.invariant-loop-s
invariant-loop-s g l = take l.s l.table ≡ take l.s (g.S.Sheet.classes l.sheet).of
