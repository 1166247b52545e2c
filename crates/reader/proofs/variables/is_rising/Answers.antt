use Rattle.std.proofs.Common.{ltb, sym, ◌∙◌, rules, tests, arith}
use Rattle.std.proofs.lemmas.Iterator.{YieldsList-from_slice}
use Rattle.std.proofs.lemmas.Iterator.Search.{all_from_yields_List}
use Rattle.std.proofs.lemmas.List.Sorted.{answers_always}
use Rattle.reader.proofs.StartFacts.{rises, falls}
use Rattle.reader.proofs.variables.is_rising.Goals as goal

pub returns-then-is_sorted_by : goal.returns-then-is_sorted_by
returns-then-is_sorted_by c =
    let xs = c.args.values.now in
    let sorted = c.if-is_sorted_by.ensures.cases ltb (answers_always _ _ _ (λ f a r q k. search (rules, tests))) in
    all_from_yields_List (λ v. ltb v c.args.size) _ _ _ c.all.ensures.ran (YieldsList-from_slice xs cc) (λ x b q k. search (rules, tests)) ∙ rises c.args.size xs sorted 0 (λ d lt. omega arith)

pub returns-else-is_sorted_by : goal.returns-else-is_sorted_by
returns-else-is_sorted_by c =
    let at = c.if-is_sorted_by.ensures.cases ltb (answers_always _ _ _ (λ f a r q k. search (rules, tests))) in
    c.if-is_sorted_by.false ∙ sym (falls c.args.size c.args.values.now at.0 0 at.1 at.2)
