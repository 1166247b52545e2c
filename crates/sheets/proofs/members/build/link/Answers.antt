use Rattle.std.proofs.Common.{◌≡◌, ℕ, ◌+◌, ◌-◌, get_or, set, take, sym, subst, arith}
use Rattle.std.proofs.lemmas.List.{get_or-take, length-take-le}
use Rattle.sheets.specs.Links.{Linked}
use Rattle.sheets.proofs.Links.{link_none, link_more}
use Rattle.sheets.proofs.members.build.link.Goals as goal

pub loop-s-init : goal.loop-s-init
loop-s-init c =
    link_none (take c.args.n c.args.table.now) c.args.first.now c.args.after.now c.args.n (length-take-le c.args.n c.args.table.now c.requires.room) c.requires.none

pub loop-s-preserved : goal.loop-s-preserved
loop-s-preserved c =
    let n = c.args.n in
    let table = c.args.table.now in
    let s : ℕ = c.loop-s.s - 1 in
    let last : c.loop-s.s ≡ s + 1 = omega arith in
    let more =
    link_more (take n table) c.loop-s.first c.loop-s.after s (get_or table s 0) c.replace.new.self (get_or-take n table s 0 (omega arith))
    (omega (arith, length-take-le n table c.requires.room)) (omega (arith, c.requires.long)) (omega (arith, c.requires.below s (omega arith))) c.replace.ensures.holds
    (subst (λ i. Linked (take n table) i c.loop-s.first c.loop-s.after) last c.loop-s.invariant) in
    subst (λ y. Linked (take n table) s (set c.loop-s.first (get_or table s 0) c.replace.new.self) (set c.loop-s.after s y)) (sym c.replace.ensures.was) more
