-- The tuples of a cluster parted by its tests, one after the other.
use Rattle.std.proofs.Common.{◌≡◌, ℕ, ◌+◌, ◌-◌, ◌*◌, ◌<◌, ◌≤◌, Bool, true, false, ◌↔◌, List, length, get_or, set, Some, None, Option, sym, ap, refl, subst, ◌∙◌, arith}
use borrow.Rule.Slice.PartMut.{put_mid}
use Rattle.std.proofs.lemmas.List.Edits.{length-between}
use Rattle.std.specs.Option.{IsSome}
use Rattle.columns.specs.Columns.{product}
use Rattle.sheets.specs.Classes.{Classes}
use Rattle.sheets.specs.Numbering.{bit, Numberable, Renumbered, NumberGives}
use Rattle.sheets.specs.Tables.{listed}
use Rattle.tuples.specs.Meaning.{sizes_of, clusters_of, count_of}
use Rattle.tuples.specs.Tuples.{width, tuple, part, tuples_before}
use Rattle.tuples.specs.declared.tuple.Tuples.{Tuples}
use Rattle.tuples.proofs.Widths.{before_rises}
use Rattle.columnsheet.specs.declared.parts.Parts.{Parts}
use Rattle.columnsheet.specs.Groups.{piece}
use Rattle.columnsheet.specs.Kept.{Grouping}
use Rattle.columnsheet.specs.Parting.{SaidAlike, AllSaidAlike, Parted}
use Rattle.columnsheet.proofs.GroupFacts.{grouped_as, below_last}
use Rattle.columnsheet.proofs.OwnTuples.{own_grid, own_few, own_end, own_clusters}
use Rattle.columnsheet.proofs.PieceFacts.{Renewed, renewed_part}

bit_same : (a b : Bool) (x y : ℕ) → 2 * x + bit a ≡ 2 * y + bit b → (x ≡ y) × (a ≡ b)
bit_same true true x y e = (omega arith, refl)
bit_same true false x y e = absurd (omega arith)
bit_same false true x y e = absurd (omega arith)
bit_same false false x y e = (omega arith, refl)

bit_most : (a : Bool) → bit a ≤ 1
bit_most true = omega arith
bit_most false = omega arith

-- what can be numbered is
pub numbered_some : (xs : List ℕ) (r : Option ℕ) (ys : List ℕ) → NumberGives xs r ys → Numberable xs → IsSome r
numbered_some xs (Some count) ys g can = refl
numbered_some xs None ys g can = absurd (g.0 can)

pub numbered_is : (xs : List ℕ) (r : Option ℕ) (ys : List ℕ) (count : ℕ) → NumberGives xs r ys → r ≡ Some count → Renumbered (length xs) xs ys count
numbered_is xs r ys count g e = (subst (λ r. NumberGives xs r ys) e g).1

module _ (x : Tuples) (k : ℕ) where
  abbrev at : ℕ → ℕ
  at = tuple (sizes_of x) (clusters_of x) k

  abbrev low : ℕ → ℕ
  low = part (sizes_of x) (clusters_of x) k

  -- each tuple below i has its class number in xs twice, and what the test b says of it
  pub record Appended (b : ℕ → Bool) (xs ys : List ℕ) (i : ℕ) : Type 0 where
    pub done : (s : ℕ) → s < product (sizes_of x) → at s < i → get_or ys (at s) 0 ≡ 2 * get_or xs (at s) 0 + bit (b (low s))
    pub rest : (t : ℕ) → i ≤ t → get_or ys t 0 ≡ get_or xs t 0

  module _ (hk : k < count_of x) where
    in_width : (s : ℕ) → s < product (sizes_of x) → at s < width (sizes_of x) (clusters_of x) k
    in_width s hs = (own_grid x).below k s hk hs

    -- numbered by lowest tuple: the tuples of two states share a class exactly if E holds of the states
    numbered_as : (ys zs : List ℕ) (count : ℕ) (E : ℕ → ℕ → Type 0) → length ys ≡ width (sizes_of x) (clusters_of x) k → length zs ≡ length ys → Renumbered (length ys) ys zs count
        → ((s t : ℕ) → s < product (sizes_of x) → t < product (sizes_of x) → (get_or ys (at s) 0 ≡ get_or ys (at t) 0) ↔ E s t) → Grouping x k E (listed count zs)
    numbered_as ys zs count E all long anew same = record {
      lawful = record {
        below = λ t h. anew.below t (omega (arith, long));
        occurs = λ c h. let o = anew.occurs c h in let lt = o.1 in (o.0, omega (arith, long), o.2);
      };
      tuples_are = long ∙ all;
      numbered = λ t c h l. anew.numbered t c (omega (arith, long)) l;
      together = λ s t hs ht.
          let both = anew.together (at s) (at t) (omega (arith, all, in_width s hs)) (omega (arith, all, in_width t ht)) in
          let new = same s t hs ht in
          ((λ e. new.0 (both.0 e)), (λ e. both.1 (new.1 e)));
    }

    -- one test more
    module _ (b : ℕ → Bool) (xs : List ℕ) where
      module _ (ys : List ℕ) (i : ℕ) (all : length xs ≡ width (sizes_of x) (clusters_of x) k) (same : length ys ≡ length xs) (end : length xs ≤ i) (g : Appended b xs ys i) where
        pub appended_numberable : ((t : ℕ) → t < length xs → get_or xs t 0 < 1024) → Numberable ys
        appended_numberable small = record {
          few = omega (arith, own_few x k hk);
          small = λ t h.
              let met = (own_grid x).met k t hk (omega arith) in
              let lt : at met.0 < length xs = omega (arith, met.2) in
              omega (arith, ap (λ t. get_or ys t 0) met.2, g.done met.0 met.1 (omega arith), small (at met.0) lt, bit_most (b (low met.0)));
        }

        pub appended_grouped : (zs : List ℕ) (count : ℕ) → length zs ≡ length ys → Renumbered (length ys) ys zs count → Grouping x k (SaidAlike x k b xs) (listed count zs)
        appended_grouped zs count long anew =
            numbered_as ys zs count (SaidAlike x k b xs) (same ∙ all) long anew
            (λ s t hs ht.
            let first = g.done s hs (omega (arith, in_width s hs)) in
            let second = g.done t ht (omega (arith, in_width t ht)) in
            ((λ e. bit_same _ _ _ _ (sym first ∙ e ∙ second)), (λ e. first ∙ (λ j. 2 * e.0 j + bit (e.1 j)) ∙ sym second)))

    -- the tests of the cluster, one after the other
    module _ (Of : ℕ → Type 0) (truth : ℕ → ℕ → Bool) (xs : List ℕ) where
      pub plain_numberable : length xs ≡ width (sizes_of x) (clusters_of x) k → ((t : ℕ) → t < length xs → get_or xs t 0 < 1024) → Numberable xs
      plain_numberable all small = record { few = omega (arith, own_few x k hk); small = λ t h. omega (arith, small t h) }

      pub said_none : (zs : List ℕ) (count : ℕ) → length xs ≡ width (sizes_of x) (clusters_of x) k → length zs ≡ length xs → Renumbered (length xs) xs zs count → Grouping x k (AllSaidAlike x k 0 Of truth xs) (listed count zs)
      said_none zs count all long anew = numbered_as xs zs count (AllSaidAlike x k 0 Of truth xs) all long anew (λ s t hs ht. ((λ e. (e, λ i h. absurd (omega arith))), (λ e. e.0)))

      module _ (i : ℕ) (d : Classes) (g : Grouping x k (AllSaidAlike x k i Of truth xs) d) where
        pub said_skip : (Of i → ⊥) → Grouping x k (AllSaidAlike x k (i + 1) Of truth xs) d
        said_skip other =
            grouped_as _ _ _ (AllSaidAlike x k i Of truth xs) (AllSaidAlike x k (i + 1) Of truth xs) d
            (λ s t hs ht.
            let last = below_last (λ j. Of j → truth j (low s) ≡ truth j (low t)) i in
            ((λ e. (e.0, last.1 (e.1, λ own. absurd (other own)))), (λ e. (e.0, (last.0 e.1).0)))) g

        pub said_more : (e : Classes) → Of i → Grouping x k (SaidAlike x k (truth i) d.of) e → Grouping x k (AllSaidAlike x k (i + 1) Of truth xs) e
        said_more e own once =
            grouped_as _ _ _ (SaidAlike x k (truth i) d.of) (AllSaidAlike x k (i + 1) Of truth xs) e
            (λ s t hs ht.
            let last = below_last (λ j. Of j → truth j (low s) ≡ truth j (low t)) i in
            let old = g.together s t hs ht in (
              (λ p. let q = old.0 p.0 in (q.0, last.1 (q.1, λ _. p.1))),
              (λ p. (old.1 (p.0, (last.0 p.1).0), (last.0 p.1).1 own)),
            )) once

-- what some tests make of the tuples of each cluster
abbrev pub Parting : (x : Tuples) → (Tuples → ℕ) → (Tuples → ℕ → ℕ → Type 0) → (ℕ → ℕ → Bool) → ℕ → Classes → Classes → Type 0
Parting x tests Of truth k = Parted x k (tests x) (Of x k) truth

-- one cluster more is parted: the tuples of p's cluster k stand from `from` to `to`, and get the class numbers zs
pub own_renewed : (p : Parts) (P : ℕ → Classes → Classes → Type 0) (xs old : List ℕ) (k from to : ℕ) (zs : List ℕ) (count : ℕ) → k < count_of p.tuples
    → from ≡ tuples_before (sizes_of p.tuples) (clusters_of p.tuples) k → to ≡ tuples_before (sizes_of p.tuples) (clusters_of p.tuples) (k + 1) → length zs ≡ length (piece from to p.classes)
    → Renewed (tuples_before (sizes_of p.tuples) (clusters_of p.tuples)) P xs old p.classes p.counts k → P k (listed (get_or old k 0) (piece from to p.classes)) (listed count zs)
    → Renewed (tuples_before (sizes_of p.tuples) (clusters_of p.tuples)) P xs old (put_mid from (to - from) p.classes zs) (set p.counts k count) (k + 1)
own_renewed p P xs old k from to zs count hk starts ends fits g made =
    let x = p.tuples in
    let inside = own_end x k hk in
    renewed_part (tuples_before (sizes_of x) (clusters_of x)) (before_rises (sizes_of x) (clusters_of x)) P xs old p.classes p.counts k g from to zs count starts ends (omega (arith, inside, p.long)) (omega (arith, own_clusters x, p.each)) (fits ∙ length-between p.classes from to (omega (arith, ends, inside, p.long))) made
