use Rattle.std.proofs.Common.{sym, subst}
use Rattle.rules.specs.Next.{LowestFrom}
use Rattle.sheets.specs.Classes.{member}
use Rattle.sheets.specs.Members.{partition}
use Rattle.sheets.proofs.members.Members.first_member.Goals as goal

pub returns-then-k-self : goal.returns-then-k-self
returns-then-k-self c =
    let x = c.args.self.now in
    subst (LowestFrom (member (partition x) c.args.k) 0) (sym c.get.ensures) (x.firsts c.args.k c.if-k-self.true)
