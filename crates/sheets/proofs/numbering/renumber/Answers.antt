use Rattle.std.proofs.Common.{arith}
use Rattle.sheets.proofs.Ranks.{ranked_none, ranked_next, ranked_all}
use Rattle.sheets.proofs.numbering.renumber.Goals as goal
use Rattle.sheets.proofs.numbering.renumber.Goals.{then-number-count, else-number-count}

pub loop-x-init : goal.loop-x-init
loop-x-init c = ranked_none c.empty-none.result c.empty-none.ensures c.args.table.now

pub loop-x-preserved : goal.loop-x-preserved
loop-x-preserved c =
    ranked_next c.args.table.now c.loop-x.table c.loop-x.numbers c.loop-x.x-index c.from.result c.loop-x.count c.get_or_insert-number.result c.get_or_insert-number.new.self (omega arith)
    (omega (arith, c.from.ensures, c.loop-x.invariant.ranking.rest c.loop-x.x-index (omega arith), c.requires.small c.loop-x.x-index c.loop-x-test.true)) c.from.ensures c.get_or_insert-number.ensures.holds c.loop-x.invariant
    c.get_or_insert-number.ensures.value c.if-number-count.count
    (λ e. elim c.if-number-count.branch [ then-number-count w ↦ w.count-is | else-number-count w ↦ absurd (w.if-number-count.false e) ])
    (λ ne. elim c.if-number-count.branch [ then-number-count w ↦ absurd (ne w.if-number-count.true) | else-number-count w ↦ w.count-is ])

pub returns : goal.returns
returns c = ranked_all c.args.table.now c.loop-x.table c.loop-x.numbers c.loop-x.x-index c.loop-x.count (omega arith) (omega arith) c.loop-x.invariant
