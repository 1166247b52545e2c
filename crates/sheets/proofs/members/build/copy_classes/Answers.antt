use Rattle.std.proofs.Common.{sym, ◌∙◌, arith}
use Rattle.sheets.proofs.Tables.{copy_more}
use Rattle.sheets.proofs.members.build.copy_classes.Goals as goal

pub loop-s-preserved : goal.loop-s-preserved
loop-s-preserved g c =
    copy_more (g.S.Sheet.classes c.args.sheet.now) c.loop-s.table c.loop-s.s c.unwrap.result
    (omega (arith, c.requires.room, c.loop-s.auto.table)) (omega (arith, c.requires.known)) (sym c.class.ensures ∙ c.unwrap.ensures) c.loop-s.invariant
