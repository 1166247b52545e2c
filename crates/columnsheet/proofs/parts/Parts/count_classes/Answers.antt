use Rattle.std.proofs.Common.{◌*◌, take, ap, ◌∙◌}
use Rattle.std.proofs.lemmas.Iterator.{YieldsList-from_slice}
use Rattle.std.proofs.lemmas.Iterator.Adapters.{total_from_yields_List}
use Rattle.columnsheet.proofs.CountFacts.{counts_fit, counts_product}
use Rattle.columnsheet.proofs.parts.Parts.count_classes.Goals as goal

pub product-requires-clause-fits : goal.product-requires-clause-fits
product-requires-clause-fits c = λ p seen from. counts_fit c.args.self.now c.count.result c.count.ensures p.items p.from.rest.now (c.iter.ensures.runs p seen).7 (ap (λ s. s.rest.now) from ∙ c.iter.ensures.rest)

pub returns : goal.returns
returns c = counts_product c.args.self.now c.count.result c.count.ensures c.product.result (total_from_yields_List (λ a x. a * x) 1 c.product.result c.product.ensures.ran (YieldsList-from_slice (take c.count.result c.args.self.now.counts) c.iter.ensures.rest))
