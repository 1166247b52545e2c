use Rattle.std.proofs.Common.{ℕ, List, ap, ◌∙◌, arith}
use Rattle.std.proofs.lemmas.List.{get_or-replicate}
use Rattle.sheets.specs.Classes.{Classes}
use Rattle.sheets.specs.Slots.{content, no_number}
use Rattle.sheets.proofs.Links.{linked_after}
use Rattle.sheets.proofs.Tables.{copied}
use Rattle.sheets.proofs.members.build.tables.Goals as goal

pub link-requires : goal.link-requires
link-requires g c =
    let table = c.copy_classes.new.table in
    let sheet = g.S.Sheet.classes c.args.sheet.now in
    record {
      room = omega (arith, c.requires.room, c.copy_classes.auto.table);
      long = c.requires.room;
      below = λ s h. omega (arith, copied table sheet.of c.args.n s c.copy_classes.ensures h, c.requires.below s h, c.requires.few, c.requires.room);
      few = c.requires.room;
      none = λ k h. ap content (get_or-replicate 4096 k c.empty-none.result no_number h ∙ c.empty-none.ensures);
    }

pub invariant_of-result : goal.invariant_of-result
invariant_of-result g c =
    let n = c.args.n in
    let table = c.copy_classes.new.table in
    let first = c.link.new.first in
    let after = c.link.new.after in
    let sheet = g.S.Sheet.classes c.args.sheet.now in
    record {
      full = c.copy_classes.auto.table;
      wide = c.link.auto.first;
      long = c.link.auto.after;
      held = c.requires.room;
      few = c.requires.few;
      below = λ s h. omega (arith, copied table sheet.of n s c.copy_classes.ensures h, c.requires.below s h);
      firsts = λ k h. c.link.ensures.firsts k (omega (arith, c.link.auto.first, c.requires.few, c.requires.room));
      afters = linked_after n table first after c.link.ensures (omega (arith, c.requires.room, c.copy_classes.auto.table));
    }

pub returns : goal.returns
returns g c = let make : List ℕ → Classes = λ xs. record { of = xs; count = c.args.count } in ap make c.copy_classes.ensures
