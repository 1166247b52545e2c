use Rattle.reader.specs.Meanings.{rule_set_of}
use Rattle.ruletext.proofs.Formed.{says_formed}
use Rattle.ruletext.proofs.text.RuleText.read.Goals as goal

pub keep-requires : goal.keep-requires
keep-requires c = says_formed c.args.text.now (rule_set_of c.in_ok-set.set) c.in_ok-set.ensures
