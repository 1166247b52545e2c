use Rattle.sheets.specs.Members.{partition}
use Rattle.sheets.proofs.ClassRuns.{member_below}
use Rattle.sheets.proofs.members.class_members.ClassMembersIterator.next.Goals as goal

pub member_after-requires : goal.member_after-requires
member_after-requires c = let x = c.args.self.now in member_below (partition x.members.now) x.class c.in-Some.s (x.handed c.in-Some.s c.in-Some.is)
