use Rattle.std.proofs.Common.{◌≡◌, ℕ, Bool, true, false, rules, arith}
use Rattle.std.proofs.lemmas.Iterator.{first_from_Range}
use Rattle.rules.proofs.NextFacts.{lowest_in}
use Rattle.sheets.specs.Classes.{member}
use Rattle.sheets.specs.Members.{partition}
use Rattle.sheets.proofs.ClassRuns.{member_below}
use Rattle.sheets.proofs.Partitions.{partition_states}
use Rattle.sheets.proofs.members.Members.next_member.Goals as goal

pub returns : goal.returns
returns c =
    let x = c.args.self.now in
    let passes : ℕ → Bool = member (partition x) c.args.k in
    lowest_in passes c.args.from x.states c.find.result (λ s t. omega (arith, member_below (partition x) c.args.k s t, partition_states x))
    (first_from_Range _ _ _ c.find.result (λ s. passes s ≡ true) (λ s. passes s ≡ false) c.find.ensures.ran (λ s q k. search rules) (λ s q k. search rules))
