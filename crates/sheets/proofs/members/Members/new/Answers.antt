use Rattle.std.proofs.Common.{◌∙◌, arith}
use Rattle.sheets.proofs.Counts.{count_most}
use Rattle.sheets.proofs.Tables.{held_whole}
use Rattle.sheets.proofs.members.Members.new.Goals as goal

pub tables-requires : goal.tables-requires
tables-requires g c =
    let sheet = g.S.Sheet.classes c.args.sheet.now in
    let lawful = c.states-n.ensures.lawful in
    record {
      known = omega (arith, c.states-n.ensures.tells);
      room = c.if-n-le-MOST_STATES.true;
      few = omega (arith, c.states-n.ensures.tells, c.count.ensures, count_most sheet lawful);
      below = λ s h. omega (arith, lawful.below s (omega (arith, c.states-n.ensures.tells)), c.count.ensures);
    }

pub returns-then-n-le-MOST_STATES : goal.returns-then-n-le-MOST_STATES
returns-then-n-le-MOST_STATES g c =
    c.tables.ensures
    ∙ held_whole (g.S.Sheet.classes c.args.sheet.now) c.states-n.result c.count.result c.states-n.ensures.tells c.count.ensures c.if-n-le-MOST_STATES.true
