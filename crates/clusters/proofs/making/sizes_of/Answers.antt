use Rattle.std.proofs.Common.{◌≡◌, ℕ, get_or, unwrap_or, inl, inr, ap, sym, ◌∙◌, length, Some, None, rules, arith}
use Rattle.std.proofs.lemmas.Bool.{cases_lt, cond-true, cond-false, lt-ltb, le-ltb}
use Rattle.std.proofs.lemmas.List.{get_or_past}
use Rattle.columns.specs.Columns.{Columns, width_at}
use Rattle.clusters.proofs.Filled.{filled}
use Rattle.clusters.proofs.making.sizes_of.Goals as goal

-- the width of a number that is no variable counts as 0
width_or : (cs : Columns) (v : ℕ) → unwrap_or (width_at cs v) 0 ≡ get_or cs.sizes v 0
width_or cs v =
    let some = Some (get_or cs.sizes v 0) in
    elim (cases_lt v (length cs.sizes)) [
      | inl lt ↦ ap (λ o. unwrap_or o 0) (cond-true _ some None (lt-ltb _ _ lt))
      | inr le ↦ ap (λ o. unwrap_or o 0) (cond-false _ some None (le-ltb _ _ le)) ∙ sym (get_or_past cs.sizes v 0 le)
    ]

pub returns-clause-each : goal.returns-clause-each
returns-clause-each g c =
    let sizes = (g.C.ColumnedSource.columns c.args.source.now).sizes in
    λ v lt. filled _ _ (λ w. get_or sizes w 0) (λ w y q k. let e = width_or (g.C.ColumnedSource.columns c.args.source.now) w in search rules) c.from_fn.result 12 0 c.from_fn.ensures.items.each v (omega arith) (omega arith)
