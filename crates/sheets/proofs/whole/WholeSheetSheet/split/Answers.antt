use Rattle.std.proofs.Common.{◌≡◌, length, take, sym, subst, refl, ◌∙◌, arith}
use Rattle.std.proofs.lemmas.List.{length-take-le}
use Rattle.sheets.specs.Classes.{Lawful}
use Rattle.sheets.specs.Numbering.{Moved, MovedAnew}
use Rattle.sheets.specs.Splits.{Splittable}
use Rattle.sheets.specs.Tables.{table_classes}
use Rattle.sheets.specs.Whole.{WholeSplit}
use Rattle.sheets.proofs.WholeSplits.{table_lawful, renumbered_occurs, moved_numberable, split_whole, whole_into}
use Rattle.sheets.proofs.whole.WholeSheetSheet.split.Goals as goal

pub part_bad-self-requires : goal.part_bad-self-requires
part_bad-self-requires c =
    let x = c.args.self.now in
    let n = c.from-n.result in
    let same : n ≡ x.states = c.from-n.ensures in
    let used : length (take n x.table) ≡ n = length-take-le n x.table (omega (arith, same, x.full, x.held)) in
    let lawful : Lawful (table_classes x.count n x.table) = rw same (table_lawful x.count x.states x.table (omega (arith, x.full, x.held)) x.below x.occurs) in
    let may = c.if-not-is_splittable.ensures.0 refl in
    record {
      room = omega (arith, same, x.full, x.held);
      long = omega (arith, used, may.enough);
      numberable = λ moved long moves.
          moved_numberable x.count c.args.class (take n x.table) moved c.args.marks.now lawful may (long ∙ sym used) (subst (λ k. Moved x.count k c.args.marks.now (take n x.table) moved) (sym used) moves) (omega (arith, used, same, x.held));
    }

pub invariant_of-self : goal.invariant_of-self
invariant_of-self c =
    let x = c.args.self.now in
    let n = c.from-n.result in
    let same : n ≡ x.states = c.from-n.ensures in
    let after = c.part_bad-self.new.table in
    let long : length after ≡ 4096 = c.part_bad-self.auto.table ∙ x.full in
    let m : MovedAnew x.count x.states c.args.marks.now (take n x.table) after c.part_bad-self.result = subst (λ k. MovedAnew x.count k c.args.marks.now (take n x.table) after c.part_bad-self.result) same c.part_bad-self.ensures in
    record {
      full = long;
      held = x.held;
      below = m.anew.below;
      occurs = renumbered_occurs x.states m.moved after c.part_bad-self.result (omega (arith, long, x.held)) m.anew;
    }

pub returns : goal.returns
returns c =
    let x = c.args.self.now in
    let marks = c.args.marks.now in
    let n = c.from-n.result in
    let same : n ≡ x.states = c.from-n.ensures in
    let after = c.part_bad-self.new.table in
    let used : length (take n x.table) ≡ n = length-take-le n x.table (omega (arith, same, x.full, x.held)) in
    let long : length after ≡ 4096 = c.part_bad-self.auto.table ∙ x.full in
    let m = c.part_bad-self.ensures in
    let lawful : Lawful (table_classes x.count n x.table) = rw same (table_lawful x.count x.states x.table (omega (arith, x.full, x.held)) x.below x.occurs) in
    let may : Splittable (table_classes x.count n x.table) c.args.class marks = c.if-not-is_splittable.ensures.0 refl in
    let formed : WholeSplit (table_classes x.count n x.table) marks (table_classes c.part_bad-self.result n after) =
    split_whole x.count c.args.class (take n x.table) m.moved marks lawful may (m.long ∙ sym used) (subst (λ k. Moved x.count k marks (take n x.table) m.moved) (sym used) m.moves) n after c.part_bad-self.result (sym m.long) (omega (arith, long, same, x.held)) m.anew in
    rw (sym same) record { gives = (may, whole_into (table_classes x.count n x.table) marks (table_classes c.part_bad-self.result n after) formed); formed = formed }
