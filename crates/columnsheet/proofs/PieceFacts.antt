-- A table that is made anew piece by piece, and the counts of its pieces.
use Rattle.std.proofs.Common.{◌≡◌, ℕ, ◌+◌, ◌-◌, ◌<◌, ◌≤◌, List, length, get_or, take, drop, set, sym, ap, ◌∙◌, subst, inl, inr, arith, below_more}
use borrow.Rule.Slice.PartMut.{put_mid}
use Rattle.std.proofs.lemmas.Bool.{cases_lt}
use Rattle.std.proofs.lemmas.List.{drop-drop, get_or-set_same, get_or-set_other}
use Rattle.std.proofs.lemmas.Slice.{between_is, take-put_mid_below, drop-put_mid, between-put_mid}
use Rattle.sheets.specs.Classes.{Classes, Lawful}
use Rattle.sheets.specs.Tables.{listed}
use Rattle.columnsheet.specs.Groups.{piece}

-- The pieces below i of ys are made: P k says what becomes of the piece k of xs. The others are as they were, with the counts that they had in `old`.
pub record Renewed (at : ℕ → ℕ) (P : ℕ → Classes → Classes → Type 0) (xs old ys counts : List ℕ) (i : ℕ) : Type 0 where
  pub done : (k : ℕ) → k < i → P k (listed (get_or old k 0) (piece (at k) (at (k + 1)) xs)) (listed (get_or counts k 0) (piece (at k) (at (k + 1)) ys))
  pub rest : drop (at i) ys ≡ drop (at i) xs
  pub kept : (k : ℕ) → i ≤ k → get_or counts k 0 ≡ get_or old k 0

module _ (at : ℕ → ℕ) (rises : (j k : ℕ) → j ≤ k → at j ≤ at k) (P : ℕ → Classes → Classes → Type 0) (xs old ys counts : List ℕ) (i : ℕ) (g : Renewed at P xs old ys counts i) where
  -- the pieces from i on are as they were
  renewed_rest : (k : ℕ) → i ≤ k → piece (at k) (at (k + 1)) ys ≡ piece (at k) (at (k + 1)) xs
  renewed_rest k h =
      let up = rises i k h in
      let gap : at i + (at k - at i) ≡ at k = omega arith in
      ap (take (at (k + 1) - at k)) (ap (λ n. drop n ys) (sym gap) ∙ sym (drop-drop (at k - at i) (at i) ys) ∙ ap (drop (at k - at i)) g.rest ∙ drop-drop (at k - at i) (at i) xs ∙ ap (λ n. drop n xs) gap)

  pub renewed_piece : piece (at i) (at (i + 1)) ys ≡ piece (at i) (at (i + 1)) xs
  renewed_piece = renewed_rest i (omega arith)

  -- made and old pieces are lawful
  pub renewed_lawful : (m : ℕ) → ((k : ℕ) (d e : Classes) → k < m → P k d e → Lawful e) → ((k : ℕ) → k < m → Lawful (listed (get_or old k 0) (piece (at k) (at (k + 1)) xs))) → (k : ℕ) → k < m → Lawful (listed (get_or counts k 0) (piece (at k) (at (k + 1)) ys))
  renewed_lawful m new before k h =
      elim (cases_lt k i) [
        | inl lt ↦ new k _ _ h (g.done k lt)
        | inr ge ↦ subst Lawful (λ j. listed (sym (g.kept k (omega arith)) j) (sym (renewed_rest k (omega arith)) j)) (before k h)
      ]

  module _ (zs : List ℕ) (count : ℕ) (inside : at (i + 1) ≤ length ys) (room : i < length counts) (fits : length zs ≡ at (i + 1) - at i)
      (made : P i (listed (get_or old i 0) (piece (at i) (at (i + 1)) xs)) (listed count zs)) where
    next : List ℕ
    next = put_mid (at i) (at (i + 1) - at i) ys zs

    up : at i ≤ at (i + 1)
    up = rises i (i + 1) (omega arith)

    earlier : (k : ℕ) → k < i → piece (at k) (at (k + 1)) next ≡ piece (at k) (at (k + 1)) ys
    unfolding next
    earlier k h =
        between_is next (at k) (at (k + 1)) ∙ ap (drop (at k)) (take-put_mid_below (at i) (at (i + 1) - at i) ys zs (at (k + 1)) (rises (k + 1) i (omega arith)) (omega (arith, up))) ∙ sym (between_is ys (at k) (at (k + 1)))

    here : piece (at i) (at (i + 1)) next ≡ zs
    unfolding next
    here = between-put_mid (at i) (at (i + 1) - at i) ys zs (at (i + 1)) (omega (arith, up)) fits

    later : drop (at (i + 1)) next ≡ drop (at (i + 1)) xs
    unfolding next
    later =
        let w = at (i + 1) - at i in
        let sum : at i + w ≡ at (i + 1) = omega (arith, up) in
        drop-put_mid (at i) w ys zs (at (i + 1)) (omega (arith, up)) (omega (arith, up)) fits ∙ ap (λ n. drop n ys) (sym sum) ∙ sym (drop-drop w (at i) ys) ∙ ap (drop w) g.rest ∙ drop-drop w (at i) xs ∙ ap (λ n. drop n xs) sum

    pub renewed_more : Renewed at P xs old (put_mid (at i) (at (i + 1) - at i) ys zs) (set counts i count) (i + 1)
    unfolding next
    renewed_more = record {
      done = below_more (λ k. P k (listed (get_or old k 0) (piece (at k) (at (k + 1)) xs)) (listed (get_or (set counts i count) k 0) (piece (at k) (at (k + 1)) next))) i
          (λ k h. subst (P k (listed (get_or old k 0) (piece (at k) (at (k + 1)) xs))) (λ j. listed (sym (get_or-set_other counts i k count 0 (omega arith)) j) (sym (earlier k h) j)) (g.done k h))
          (subst (P i (listed (get_or old i 0) (piece (at i) (at (i + 1)) xs))) (λ j. listed (sym (get_or-set_same counts i count 0 room) j) (sym here j)) made);
      rest = later;
      kept = λ k h. get_or-set_other counts i k count 0 (omega arith) ∙ g.kept k (omega arith);
    }

  -- the same by the ends as they are told
  pub renewed_part : (from to : ℕ) (zs : List ℕ) (count : ℕ) → from ≡ at i → to ≡ at (i + 1) → at (i + 1) ≤ length ys → i < length counts → length zs ≡ to - from → P i (listed (get_or old i 0) (piece from to ys)) (listed count zs) → Renewed at P xs old (put_mid from (to - from) ys zs) (set counts i count) (i + 1)
  renewed_part from to zs count from_is to_is inside room fits made =
      let whole : P i (listed (get_or old i 0) (piece (at i) (at (i + 1)) xs)) (listed count zs) = subst (λ l. P i (listed (get_or old i 0) l) (listed count zs)) ((λ j. piece (from_is j) (to_is j) ys) ∙ renewed_piece) made in
      let more = renewed_more zs count inside room (fits ∙ (λ j. to_is j - from_is j)) whole in
      subst (λ l. Renewed at P xs old l (set counts i count) (i + 1)) (λ j. put_mid (sym from_is j) (sym to_is j - sym from_is j) ys zs) more
