-- The whole-state sheet at first, and after a split.
use Rattle.std.proofs.Common.{◌≡◌, ℕ, ◌<◌, ◌≤◌, Bool, true, false, cond, eqb, ◌≢◌, ◌↔◌, List, ◌++◌, length, get_or, sym, refl, ap, ◌∙◌, inl, inr, arith}
use Rattle.std.proofs.lemmas.List.{get_or_append_left}
use Rattle.std.proofs.lemmas.Bool.{cases_eq, cond-true, cond-false, eq-eqb, ne_eqb, eqb-true, both_ways}
use Rattle.rules.specs.Rules.{Rules}
use Rattle.sheets.specs.Classes.{Classes, states, class, Lawful}
use Rattle.sheets.specs.Numbering.{bit, Moved, Numberable, Renumbered}
use Rattle.sheets.specs.Splits.{Splittable, SplitInto}
use Rattle.sheets.specs.Structure.{any}
use Rattle.sheets.specs.Tables.{table_classes, listed}
use Rattle.sheets.specs.Whole.{Numbered, FirstWhole, WholeSplit}
use Rattle.sheets.proofs.Any.{some_from_any, any_from_some}
use Rattle.sheets.proofs.Counts.{count_fewer}
use Rattle.sheets.proofs.Tables.{table_states, table_class}

-- the facts that a sheet's table keeps make its partition lawful
pub table_lawful : (count n : ℕ) (xs : List ℕ) → n ≤ length xs → ((s : ℕ) → s < n → get_or xs s 0 < count)
    → ((k : ℕ) → k < count → any n (λ s. eqb (get_or xs s 0) k) ≡ true) → Lawful (table_classes count n xs)
table_lawful count n xs room below occurs =
    let size = table_states count n xs room in
    record {
      below = λ s h. let inside : s < n = omega arith in omega (arith, table_class count n xs s inside, below s inside);
      occurs = λ k h.
          let o = some_from_any n (λ s. eqb (get_or xs s 0) k) (occurs k h) in
          let inside = o.1 in
          (o.0, omega arith, table_class count n xs o.0 inside ∙ eqb-true (get_or xs o.0 0) k o.2);
    }

-- a table that was numbered anew
module _ (n : ℕ) (xs ys : List ℕ) (count : ℕ) (room : n ≤ length ys) (anew : Renumbered n xs ys count) where
  pub renumbered_occurs : (k : ℕ) → k < count → any n (λ s. eqb (get_or ys s 0) k) ≡ true
  renumbered_occurs k h = let o = anew.occurs k h in any_from_some n (λ s. eqb (get_or ys s 0) k) o.0 o.1 (eq-eqb (get_or ys o.0 0) k o.2)

  pub renumbered_lawful : Lawful (table_classes count n ys)
  renumbered_lawful = table_lawful count n ys room anew.below renumbered_occurs

  pub renumbered_numbered : Numbered (table_classes count n ys)
  renumbered_numbered s k h l =
      let size = table_states count n ys room in
      let inside : s < n = omega arith in
      let o = anew.numbered s k inside (omega (arith, table_class count n ys s inside)) in
      let before = o.1 in
      (o.0, before, table_class count n ys o.0 (omega arith) ∙ o.2)

  pub renumbered_together : (s t : ℕ) → s < n → t < n → (class (table_classes count n ys) s ≡ class (table_classes count n ys) t) ↔ (get_or xs s 0 ≡ get_or xs t 0)
  renumbered_together s t hs ht = (
    (λ e. (anew.together s t hs ht).0 (sym (table_class count n ys s hs) ∙ e ∙ table_class count n ys t ht)),
    (λ e. table_class count n ys s hs ∙ (anew.together s t hs ht).1 e ∙ sym (table_class count n ys t ht)),
  )

-- the numbers of a slice stand in front of the table that it was taken from
pub front_renumbered : (xs ys rest : List ℕ) (n count : ℕ) → length ys ≡ n → length xs ≡ n → Renumbered (length xs) xs ys count → Renumbered n xs (ys ++ rest) count
front_renumbered xs ys rest n count size same anew =
    let front : (s : ℕ) → s < length xs → get_or (ys ++ rest) s 0 ≡ get_or ys s 0 = λ s h. get_or_append_left ys rest 0 s (omega arith) in
    rw (sym same) record {
      few = anew.few;
      together = λ s t hs ht. rw (front s hs, front t ht) (anew.together s t hs ht);
      below = λ s h. rw (front s h) (anew.below s h);
      occurs = λ k h. let o = anew.occurs k h in (o.0, o.1, front o.0 o.1 ∙ o.2);
      numbered = λ s k h l.
          let o = anew.numbered s k h (omega (arith, front s h)) in
          let before = o.1 in
          (o.0, before, front o.0 (omega arith) ∙ o.2);
    }

-- ── At first ──

bit_same : (a b : Bool) → bit a ≡ bit b → a ≡ b
bit_same true true e = refl
bit_same true false e = absurd (omega arith)
bit_same false true e = absurd (omega arith)
bit_same false false e = refl

pub bit_most : (a : Bool) → bit a ≤ 1
bit_most true = omega arith
bit_most false = omega arith

pub bits_numberable : (p : ℕ → Bool) (xs : List ℕ) → length xs ≤ 4096 → ((s : ℕ) → s < length xs → get_or xs s 0 ≡ bit (p s)) → Numberable xs
bits_numberable p xs few bits = record { few = few; small = λ s h. omega (arith, bits s h, bit_most (p s)) }

pub first_whole : (r : Rules) (n : ℕ) (xs ys : List ℕ) (count : ℕ) → n ≡ r.size → n ≤ length ys
    → ((s : ℕ) → s < n → get_or xs s 0 ≡ bit (r.breaks s)) → Renumbered n xs ys count → FirstWhole r (table_classes count n ys)
first_whole r n xs ys count sized room bits anew =
    let size = table_states count n ys room in
    record {
      lawful = renumbered_lawful n xs ys count room anew;
      states_are = omega arith;
      together = λ s t hs ht.
          let ls : s < n = omega arith in
          let lt : t < n = omega arith in
          let same = renumbered_together n xs ys count room anew s t ls lt in (
            (λ e. bit_same (r.breaks s) (r.breaks t) (sym (bits s ls) ∙ same.0 e ∙ bits t lt)),
            (λ e. same.1 (bits s ls ∙ ap bit e ∙ sym (bits t lt))),
          );
      numbered = renumbered_numbered n xs ys count room anew;
    }

-- ── After a split ──

pub whole_into : (c : Classes) (marks : List ℕ) (d : Classes) → WholeSplit c marks d → SplitInto c marks d
whole_into c marks d w = record {
  lawful = w.lawful;
  same_states = w.states_are;
  apart = λ s t hs ht ne e. ne ((w.together s t hs ht).0 e).0;
  parted = λ s t hs ht dead bad e.
      both_ways (eqb (get_or marks s 0) 2) (ne_eqb (get_or marks s 0) 2 (omega arith)) (((w.together s t hs ht).0 e).1 ∙ eq-eqb (get_or marks t 0) 2 bad);
}

-- an accepted split leaves room for one class more
pub split_room : (c : Classes) (k : ℕ) (marks : List ℕ) → Lawful c → Splittable c k marks → c.count < states c
split_room c k marks lawful may =
    let dead = may.dead in
    let bad = may.bad in
    count_fewer c lawful dead.0 bad.0 dead.1 bad.1 (λ e. omega (arith, dead.2, bad.2, ap (λ s. get_or marks s 0) e))
    (may.inside dead.0 dead.1 (omega (arith, dead.2)) ∙ sym (may.inside bad.0 bad.1 (omega (arith, bad.2))))

module _ (count k : ℕ) (xs ys marks : List ℕ) (lawful : Lawful (listed count xs)) (may : Splittable (listed count xs) k marks) (size : length ys ≡ length xs)
    (moved : Moved count (length xs) marks xs ys) where
  at_bad : (s : ℕ) → s < length xs → get_or marks s 0 ≡ 2 → get_or ys s 0 ≡ count
  at_bad s h e = moved s h ∙ cond-true (eqb (get_or marks s 0) 2) count (get_or xs s 0) (eq-eqb (get_or marks s 0) 2 e)

  at_other : (s : ℕ) → s < length xs → get_or marks s 0 ≢ 2 → get_or ys s 0 ≡ get_or xs s 0
  at_other s h e = moved s h ∙ cond-false (eqb (get_or marks s 0) 2) count (get_or xs s 0) (ne_eqb (get_or marks s 0) 2 e)

  bad_class : (s : ℕ) → s < length xs → get_or marks s 0 ≡ 2 → get_or xs s 0 ≡ k
  bad_class s h e = may.inside s h (omega arith)

  pub moved_most : (s : ℕ) → s < length xs → get_or ys s 0 ≤ count
  moved_most s h = elim (cases_eq (get_or marks s 0) 2) [ inl e ↦ omega (arith, at_bad s h e) | inr e ↦ omega (arith, at_other s h e, lawful.below s h) ]

  pub moved_numberable : length xs ≤ 4096 → Numberable ys
  moved_numberable few = record { few = omega arith; small = λ s h. omega (arith, moved_most s (omega arith), split_room (listed count xs) k marks lawful may) }

  -- entries are equal after the move exactly where they were and both or neither moved
  moved_together : (s t : ℕ) → s < length xs → t < length xs → (get_or ys s 0 ≡ get_or ys t 0) ↔ ((get_or xs s 0 ≡ get_or xs t 0) × (eqb (get_or marks s 0) 2 ≡ eqb (get_or marks t 0) 2))
  moved_together s t hs ht = (
    (λ e.
        elim (cases_eq (get_or marks s 0) 2) [
          | inl a ↦
              elim (cases_eq (get_or marks t 0) 2) [
                | inl b ↦ (bad_class s hs a ∙ sym (bad_class t ht b), eq-eqb _ 2 a ∙ sym (eq-eqb _ 2 b))
                | inr b ↦ absurd (omega (arith, at_bad s hs a, at_other t ht b, lawful.below t ht))
              ]
          | inr a ↦
              elim (cases_eq (get_or marks t 0) 2) [
                | inl b ↦ absurd (omega (arith, at_bad t ht b, at_other s hs a, lawful.below s hs))
                | inr b ↦ (sym (at_other s hs a) ∙ e ∙ at_other t ht b, ne_eqb _ 2 a ∙ sym (ne_eqb _ 2 b))
              ]
        ]),
    (λ e. moved s hs ∙ ap (λ a. cond (eqb (get_or marks s 0) 2) count a) e.0 ∙ ap (λ b. cond b count (get_or xs t 0)) e.1 ∙ sym (moved t ht)),
  )

  pub split_whole : (n : ℕ) (zs : List ℕ) (after : ℕ) → n ≡ length ys → n ≤ length zs → Renumbered n ys zs after → WholeSplit (listed count xs) marks (table_classes after n zs)
  split_whole n zs after known space anew =
      let sized = table_states after n zs space in
      record {
        lawful = renumbered_lawful n ys zs after space anew;
        states_are = omega arith;
        together = λ s t hs ht.
            let ls : s < n = omega arith in
            let lt : t < n = omega arith in
            let named = renumbered_together n ys zs after space anew s t ls lt in
            let moving = moved_together s t hs ht in ((λ e. moving.0 (named.0 e)), (λ e. named.1 (moving.1 e)));
        numbered = renumbered_numbered n ys zs after space anew;
      }
