use Rattle.std.proofs.Common.{◌≡◌, ℕ, ◌≤◌, List, ◌++◌, length, replicate, drop, take, ◌∙◌, arith}
use Rattle.std.proofs.lemmas.List.{length-append, length-drop, length-take-le, length-replicate}
use Rattle.sheets.specs.Numbering.{Renumbered}
use Rattle.sheets.proofs.WholeSplits.{renumbered_occurs, front_renumbered, bits_numberable, first_whole}
use Rattle.sheets.proofs.whole.WholeSheet.new.Goals as goal

used : (n : ℕ) → n ≤ 4096 → length (take n (replicate {A = ℕ} 4096 0)) ≡ n
used n h = length-take-le n (replicate {A = ℕ} 4096 0) (omega (arith, length-replicate {A = ℕ} 4096 0))

whole : (n : ℕ) (ys : List ℕ) → n ≤ 4096 → length ys ≡ n → length (ys ++ drop n (replicate {A = ℕ} 4096 0)) ≡ 4096
whole n ys h e = length-append ys (drop n (replicate {A = ℕ} 4096 0)) ∙ omega (arith, length-drop n (replicate {A = ℕ} 4096 0), length-replicate {A = ℕ} 4096 0)

pub renumber-count-requires : goal.renumber-count-requires
renumber-count-requires g c =
    let n = c.from.result in
    let most : n ≤ 4096 = omega (arith, c.from.ensures, c.size-states.ensures.tells, c.size-states.ensures.finite.most) in
    bits_numberable (g.R.RuleSource.rules c.args.source.now).breaks c.part_breaking.new.table (omega (arith, c.part_breaking.auto.table, used n most))
    (rw c.part_breaking.auto.table c.part_breaking.ensures)

pub invariant_of-result : goal.invariant_of-result
invariant_of-result g c =
    let n = c.from.result in
    let same : n ≡ c.size-states.result = c.from.ensures in
    let most : n ≤ 4096 = omega (arith, same, c.size-states.ensures.tells, c.size-states.ensures.finite.most) in
    let bits = c.part_breaking.new.table in
    let after : List ℕ = c.renumber-count.new.table ++ drop n (replicate {A = ℕ} 4096 0) in
    let size : length bits ≡ n = c.part_breaking.auto.table ∙ used n most in
    let long : length after ≡ 4096 = whole n c.renumber-count.new.table most (c.renumber-count.auto.table ∙ size) in
    let anew : Renumbered c.size-states.result bits after c.renumber-count.result =
    front_renumbered bits c.renumber-count.new.table (drop n (replicate {A = ℕ} 4096 0)) c.size-states.result c.renumber-count.result (c.renumber-count.auto.table ∙ size ∙ same) (size ∙ same) c.renumber-count.ensures in
    record {
      full = long;
      held = omega (arith, same, most);
      below = anew.below;
      occurs = renumbered_occurs c.size-states.result bits after c.renumber-count.result (omega (arith, long, same, most)) anew;
    }

pub returns : goal.returns
returns g c =
    let n = c.from.result in
    let same : n ≡ c.size-states.result = c.from.ensures in
    let most : n ≤ 4096 = omega (arith, same, c.size-states.ensures.tells, c.size-states.ensures.finite.most) in
    let bits = c.part_breaking.new.table in
    let after : List ℕ = c.renumber-count.new.table ++ drop n (replicate {A = ℕ} 4096 0) in
    let size : length bits ≡ n = c.part_breaking.auto.table ∙ used n most in
    let long : length after ≡ 4096 = whole n c.renumber-count.new.table most (c.renumber-count.auto.table ∙ size) in
    first_whole (g.R.RuleSource.rules c.args.source.now) c.size-states.result bits after c.renumber-count.result c.size-states.ensures.tells (omega (arith, long, same, most))
    (λ s h. c.part_breaking.ensures s (omega (arith, h, used n most, same)))
    (front_renumbered bits c.renumber-count.new.table (drop n (replicate {A = ℕ} 4096 0)) c.size-states.result c.renumber-count.result (c.renumber-count.auto.table ∙ size ∙ same) (size ∙ same) c.renumber-count.ensures)
