use Rattle.std.proofs.Common.{ℕ, ◌+◌, ◌<◌, sym, subst, get_or, arith}
use Rattle.rules.specs.Next.{LowestFrom}
use Rattle.sheets.specs.Classes.{class, member}
use Rattle.sheets.specs.Members.{partition}
use Rattle.sheets.specs.Slots.{content, no_number}
use Rattle.sheets.proofs.Partitions.{partition_states}
use Rattle.sheets.proofs.Tables.{table_class}
use Rattle.sheets.proofs.members.Members.member_after.Goals as goal

pub returns : goal.returns
returns c =
    let x = c.args.self.now in
    let s : ℕ = c.args.s in
    let inside : s < x.states = omega (arith, c.requires, partition_states x) in
    subst (LowestFrom (member (partition x) (class (partition x) s)) (s + 1)) (sym c.get.ensures)
    (subst (λ k. LowestFrom (member (partition x) k) (s + 1) (content (get_or x.after s no_number))) (sym (table_class x.count x.states x.table s inside)) (x.afters s inside))
