-- From labels to clusters.
use Rattle.std.proofs.Common.{◌≡◌, ℕ, ◌<◌, ◌≤◌, Bool, List, length, get_or, take, sym, ◌∙◌, subst, arith}
use Rattle.std.proofs.lemmas.List.{get_or-take, length-take-le, ext_get_or}
use Rattle.rules.specs.Rules.{Rules}
use Rattle.columns.specs.Columns.{Columns, Columned}
use Rattle.sheets.specs.Numbering.{Renumbered}
use Rattle.sheets.specs.Tables.{table_classes}
use Rattle.sheets.proofs.Tables.{table_states}
use Rattle.sheets.proofs.WholeSplits.{renumbered_lawful, renumbered_together, renumbered_numbered}
use Rattle.clusters.specs.Linked.{Linked, alone, Clustered}
use Rattle.clusters.specs.Labels.{Labelled, OneLabel}
use Rattle.clusters.proofs.Links.{linked_one}

-- ── At first ──

-- each variable has its own number
pub own_labelled : (reads : ℕ → ℕ → Bool) (xs : List ℕ) → length xs ≡ 12 → ((v : ℕ) → v < 12 → get_or xs v 0 ≡ v) → Labelled reads xs
own_labelled reads xs long own = record {
  each = long;
  small = λ v h. omega (arith, own v h);
  linked = λ v w hv hw e. subst (λ x. Linked reads v x) (sym (own v hv) ∙ e ∙ own w hw) (alone v);
}

-- ── At the end ──

module _ {r : Rules} {c : Columns} (columned : Columned r c) {n : ℕ} (told : n ≡ length c.sizes) where
  -- all sizes were copied
  module _ (ds : List ℕ) (long : length ds ≡ 12) (copied : (v : ℕ) → v < 12 → get_or ds v 0 ≡ get_or c.sizes v 0) where
    front : length (take n ds) ≡ n
    front = length-take-le n ds (omega (arith, columned.most))

    pub sizes_copied : take n ds ≡ c.sizes
    sizes_copied = ext_get_or 0 (take n ds) c.sizes (front ∙ told) (λ v h. let lt : v < n = omega (arith, front) in get_or-take n ds v 0 lt ∙ copied v (omega (arith, columned.most)))

    pub sizes_wide : (v : ℕ) → v < n → 2 ≤ get_or ds v 0
    sizes_wide v h = omega (arith, copied v (omega (arith, columned.most)), columned.wide v (omega arith))

  -- labels xs that every atom agrees with, numbered as ys, are the clusters
  module _ {xs ys : List ℕ} {count : ℕ} (labelled : Labelled c.reads xs) (one : (a : ℕ) → a < c.atoms → OneLabel (c.reads a) n xs) (room : n ≤ length ys)
      (anew : Renumbered n xs ys count) where
    linked_same : {v w : ℕ} → Linked c.reads v w → get_or xs v 0 ≡ get_or xs w 0
    linked_same =
        linked_one c.reads n xs (λ a v e. let lt = columned.reads_variable a v e in omega arith)
        (λ a v w hv hw ev ew. one a (columned.reads_atom a v ev) v w hv hw ev ew)

    pub made_clustered : Clustered c (table_classes count n ys)
    made_clustered =
        let size = table_states count n ys room in
        let few = columned.most in
        record {
          lawful = renumbered_lawful n xs ys count room anew;
          variables_are = size ∙ told;
          together = λ v w hv hw.
              let lv : v < n = omega arith in
              let lw : w < n = omega arith in
              let same = renumbered_together n xs ys count room anew v w lv lw in
              ((λ e. labelled.linked v w (omega arith) (omega arith) (same.0 e)), (λ l. same.1 (linked_same l)));
          numbered = renumbered_numbered n xs ys count room anew;
        }
