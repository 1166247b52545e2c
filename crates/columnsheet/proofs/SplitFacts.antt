-- A split of the column sheet keeps what a split has to keep.
use Rattle.std.proofs.Common.{◌≡◌, ℕ, ◌<◌, eqb, List, get_or, sym, ◌∙◌, subst, arith}
use Rattle.std.proofs.lemmas.Bool.{eq-eqb, ne_eqb, both_ways}
use Rattle.columns.specs.Columns.{product}
use Rattle.sheets.specs.Classes.{Classes, states, Lawful}
use Rattle.sheets.specs.Splits.{SplitInto}
use Rattle.tuples.specs.Tuples.{width, tuple, part}
use Rattle.tuples.proofs.Grids.{Grid}
use Rattle.columnsheet.specs.Joins.{joined}
use Rattle.columnsheet.specs.ColumnSplits.{SplitCluster, SplitColumns}
use Rattle.columnsheet.proofs.AlikeFacts.{alike_dead}
use Rattle.columnsheet.proofs.JoinFacts.{joined_states, joined_same, joined_lawful}

module _ (ds : List ℕ) (p : Classes) (d : ℕ → Classes) (marks : List ℕ) (some : 0 < product ds) (grid : Grid (product ds) p.count (width ds p.of) (tuple ds p.of) (part ds p.of))
    (lawful : (k : ℕ) → k < p.count → Lawful (d k)) (sized : (k : ℕ) → k < p.count → states (d k) ≡ width ds p.of k) where
  columns_joined : (each : ℕ → Classes) → ((k : ℕ) → k < p.count → SplitCluster ds p marks k (d k) (each k))
      → SplitInto (joined (product ds) p.count (tuple ds p.of) d) marks (joined (product ds) p.count (tuple ds p.of) each)
  columns_joined each split =
      let n = product ds in
      let m = p.count in
      let w = width ds p.of in
      let t = tuple ds p.of in
      let q = part ds p.of in
      let anew : (k : ℕ) → k < m → Lawful (each k) = λ k h. (split k h).lawful in
      let fits : (k : ℕ) → k < m → states (each k) ≡ w k = λ k h. (split k h).tuples_are in
      let before = joined_states n m w t q grid d lawful sized in
      let after = joined_states n m w t q grid each anew fits in
      record {
        lawful = joined_lawful n m w t q grid each anew fits some;
        same_states = after ∙ sym before;
        apart = λ s u hs hu ne e.
            let ls : s < n = omega arith in
            let lu : u < n = omega arith in
            ne ((joined_same n m w t q grid d lawful sized s u ls lu).1 (λ k h. (((split k h).together s u ls lu).0 ((joined_same n m w t q grid each anew fits s u ls lu).0 e k h)).0));
        parted = λ s u hs hu dead bad e.
            let ls : s < n = omega arith in
            let lu : u < n = omega arith in
            both_ways (eqb (get_or marks u 0) 1) (ne_eqb (get_or marks u 0) 1 (omega arith))
            (sym (alike_dead n m w t q grid marks s u ls lu (λ k h. (((split k h).together s u ls lu).0 ((joined_same n m w t q grid each anew fits s u ls lu).0 e k h)).1)) ∙ eq-eqb (get_or marks s 0) 1 dead);
      }

  pub columns_into : (e : Classes) → SplitColumns ds p d marks e → SplitInto (joined (product ds) p.count (tuple ds p.of) d) marks e
  columns_into e s = subst (λ c. SplitInto (joined (product ds) p.count (tuple ds p.of) d) marks c) (sym s.joined_is) (columns_joined s.each s.split)
