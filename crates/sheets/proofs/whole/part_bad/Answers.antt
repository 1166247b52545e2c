use Rattle.std.proofs.Common.{◌≡◌, length, take, drop, subst, ◌∙◌}
use Rattle.std.proofs.lemmas.List.{length-take-le}
use Rattle.sheets.specs.Numbering.{Moved}
use Rattle.sheets.proofs.WholeSplits.{front_renumbered}
use Rattle.sheets.proofs.whole.part_bad.Goals as goal

pub renumber-requires : goal.renumber-requires
renumber-requires c =
    let n = c.args.n in
    let used : length (take n c.args.table.now) ≡ n = length-take-le n c.args.table.now c.requires.room in
    c.requires.numberable c.move_bad.new.table (c.move_bad.auto.table ∙ used) (subst (λ k. Moved c.args.to k c.args.marks.now (take n c.args.table.now) c.move_bad.new.table) used c.move_bad.ensures)

pub returns : goal.returns
returns c =
    let n = c.args.n in
    let used : length (take n c.args.table.now) ≡ n = length-take-le n c.args.table.now c.requires.room in
    let size : length c.move_bad.new.table ≡ n = c.move_bad.auto.table ∙ used in
    record {
      moved = c.move_bad.new.table;
      long = size;
      moves = subst (λ k. Moved c.args.to k c.args.marks.now (take n c.args.table.now) c.move_bad.new.table) used c.move_bad.ensures;
      anew = front_renumbered c.move_bad.new.table c.renumber.new.table (drop n c.args.table.now) n c.renumber.result (c.renumber.auto.table ∙ size) size c.renumber.ensures;
    }
