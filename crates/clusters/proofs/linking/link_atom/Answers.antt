use Rattle.std.proofs.Common.{ℕ, Bool, sym, ◌∙◌, arith}
use Rattle.clusters.proofs.Loops.{joining_skip, joining_more}
use Rattle.clusters.proofs.linking.link_atom.Goals as goal
use Rattle.clusters.proofs.linking.link_atom.Goals.{then-reads, else-reads}

pub loop-v-preserved : goal.loop-v-preserved
loop-v-preserved g c =
    let reads : ℕ → ℕ → Bool = (g.C.ColumnedSource.columns c.args.source.now).reads in
    let first = c.in-Some.first in
    elim c.if-reads.branch [
      | then-reads w ↦
          rw (w.labels-is ∙ w.merge.ensures, w.from.ensures, w.from-then-reads.ensures)
          (joining_more reads c.args.atom first c.loop-v.v c.args.labels.now c.loop-v.labels c.loop-v.invariant (omega arith) (omega (arith, c.requires.few))
          c.in-Some.ensures.1 (sym w.if-reads.ensures))
      | else-reads w ↦
          rw w.labels-is
          (joining_skip reads c.args.atom first c.loop-v.v c.args.labels.now c.loop-v.labels c.loop-v.invariant (sym w.if-reads.ensures))
    ]
