use Rattle.std.proofs.Common.{length, ap, ◌∙◌}
use Rattle.ruletext.specs.Wholes.{rule_set}
use Rattle.ruletext.proofs.TextFacts.{columned}
use Rattle.ruletext.proofs.columned.RuleTextColumnedSource.variables.Goals as goal

pub returns : goal.returns
returns c =
    let x = c.args.self.now in
    record { tells = c.count.ensures ∙ ap length x.sized; columned = columned (rule_set x) x.formed }
