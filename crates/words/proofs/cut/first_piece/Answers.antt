use Rattle.std.proofs.Common.{◌≡◌, eqb, sym, ◌∙◌, rules, tests, arith, false-eqb}
use Rattle.std.proofs.lemmas.Iterator.{YieldsList-from_slice}
use Rattle.std.proofs.lemmas.Iterator.Search.{position_from_yields_List}
use Rattle.std.specs.List.{position}
use Rattle.words.proofs.PieceFacts.{cut_found, cut_last}
use Rattle.words.proofs.cut.first_piece.Goals.{After-position}
use Rattle.words.proofs.cut.first_piece.Goals as goal

found : (c : After-position) → c.position.result ≡ position (λ x. eqb x c.args.end) c.args.s.now
found c = position_from_yields_List (λ x. eqb x c.args.end) _ _ c.position.result c.position.ensures.ran (YieldsList-from_slice c.args.s.now cc) (λ x b q k. search (rules, tests))

pub returns-in-Some-clause-cuts : goal.returns-in-Some-clause-cuts
returns-in-Some-clause-cuts c = cut_found _ _ _ (sym (found (goal.at.returns-in-Some-clause-cuts c).After-position) ∙ c.in-Some.is)

pub returns-in-None-2-clause-cuts : goal.returns-in-None-2-clause-cuts
returns-in-None-2-clause-cuts c = cut_last _ _ (omega (arith, false-eqb _ 0 c.if-is_empty.ensures)) (sym (found (goal.at.returns-in-None-2-clause-cuts c).After-position) ∙ c.in-None.is)
