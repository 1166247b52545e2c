-- Numbering by first place.
use Rattle.std.proofs.Common.{◌≡◌, ℕ, ◌+◌, ◌<◌, ◌≤◌, ◌≢◌, List, length, get_or, set, replicate, Some, None, Option, sym, refl, ap, ◌∙◌, inl, inr, arith, below_more}
use Rattle.std.proofs.Math.ListN.{get_or-eq_default}
use Rattle.std.proofs.lemmas.Bool.{cases_eq, cases_lt}
use Rattle.std.proofs.lemmas.List.{get_or-replicate, get_or-set_same, get_or-set_other, length-replicate, length-set}
use Rattle.std.specs.Option.{unwrap_or}
use Rattle.sheets.specs.Numbering.{Renumbered}
use Rattle.sheets.specs.Slots.{content, no_number}
use Rattle.sheets.specs.declared.slot.Slot.{Slot}

-- The places of x before i are numbered in y, by the numbers v of what stands in x.
pub record Ranking (x y : ℕ → ℕ) (v : ℕ → Option ℕ) (i count : ℕ) : Type 0 where
  pub few : count ≤ i
  pub rest : (s : ℕ) → i ≤ s → y s ≡ x s
  pub named : (s : ℕ) → s < i → v (x s) ≡ Some (y s)
  pub below : (s : ℕ) → s < i → y s < count
  pub known : (a k : ℕ) → v a ≡ Some k → k < count
  pub apart : (a b k : ℕ) → v a ≡ Some k → v b ≡ Some k → a ≡ b
  pub occurs : (k : ℕ) → k < count → (s : ℕ) × (s < i) × (y s ≡ k)
  pub ranked : (s k : ℕ) → s < i → k < y s → (t : ℕ) × (t < s) × (y t ≡ k)

pub rank_none : (x : ℕ → ℕ) (v : ℕ → Option ℕ) → ((a : ℕ) → v a ≡ None) → Ranking x x v 0 0
rank_none x v blank = record {
  few = omega arith;
  rest = λ s h. refl;
  named = λ s h. absurd (omega arith);
  below = λ s h. absurd (omega arith);
  known = λ a k e. absurd (let b = blank a in cc);
  apart = λ a b k e f. absurd (let b = blank a in cc);
  occurs = λ k h. absurd (omega arith);
  ranked = λ s k h. absurd (omega arith);
}

-- one place more
module _ (x y y' : ℕ → ℕ) (v v' : ℕ → Option ℕ) (i count : ℕ) (others : (s : ℕ) → s ≢ i → y' s ≡ y s) (olds : (a : ℕ) → a ≢ x i → v' a ≡ v a)
    (here : v' (x i) ≡ Some (y' i)) (g : Ranking x y v i count) where
  still : (s : ℕ) → s < i → y' s ≡ y s
  still s h = others s (omega arith)

  occurs_still : (k : ℕ) → k < count → (s : ℕ) × (s < i) × (y' s ≡ k)
  occurs_still k h = let o = g.occurs k h in (o.0, o.1, still o.0 o.1 ∙ o.2)

  ranked_still : (s k : ℕ) → s < i → k < y' s → (t : ℕ) × (t < s) × (y' t ≡ k)
  ranked_still s k h l =
      let o = g.ranked s k h (omega (arith, still s h)) in
      let before = o.1 in
      (o.0, before, still o.0 (omega arith) ∙ o.2)

  ranked_more : y' i ≤ count → (s k : ℕ) → s < i + 1 → k < y' s → (t : ℕ) × (t < s) × (y' t ≡ k)
  ranked_more most s k h = below_more (λ s. k < y' s → (t : ℕ) × (t < s) × (y' t ≡ k)) i (λ s l. ranked_still s k l) (λ l. occurs_still k (omega arith)) s h

  later : (k : ℕ) → k < count → (s : ℕ) × (s < i + 1) × (y' s ≡ k)
  later k h = let o = occurs_still k h in let before = o.1 in (o.0, omega arith, o.2)

  -- what stands there has a number
  pub rank_old : v (x i) ≡ Some (y' i) → Ranking x y' v' (i + 1) count
  rank_old numbered =
      let low : y' i < count = g.known (x i) (y' i) numbered in
      let same : (a : ℕ) → v' a ≡ v a = λ a. elim (cases_eq a (x i)) [ inl e ↦ rw e (here ∙ sym numbered) | inr e ↦ olds a e ] in
      record {
        few = omega (arith, g.few);
        rest = λ s h. others s (omega arith) ∙ g.rest s (omega arith);
        named = below_more (λ s. v' (x s) ≡ Some (y' s)) i (λ s h. rw (still s h) (same (x s) ∙ g.named s h)) here;
        below = below_more (λ s. y' s < count) i (λ s h. omega (arith, still s h, g.below s h)) (omega arith);
        known = λ a k e. g.known a k (sym (same a) ∙ e);
        apart = λ a b k e f. g.apart a b k (sym (same a) ∙ e) (sym (same b) ∙ f);
        occurs = later;
        ranked = ranked_more (omega arith);
      }

  -- what stands there gets a number
  pub rank_new : v (x i) ≡ None → y' i ≡ count → Ranking x y' v' (i + 1) (count + 1)
  rank_new fresh new =
      let kept : (s : ℕ) → s < i → v' (x s) ≡ Some (y s) = λ s h. olds (x s) (λ e. let n = g.named s h in cc) ∙ g.named s h in
      record {
        few = omega (arith, g.few);
        rest = λ s h. others s (omega arith) ∙ g.rest s (omega arith);
        named = below_more (λ s. v' (x s) ≡ Some (y' s)) i (λ s h. rw (still s h) (kept s h)) here;
        below = below_more (λ s. y' s < count + 1) i (λ s h. omega (arith, still s h, g.below s h)) (omega arith);
        known = λ a k e.
            elim (cases_eq a (x i)) [
              | inl same ↦ let told : k ≡ y' i = cc in omega arith
              | inr other ↦ omega (arith, g.known a k (sym (olds a other) ∙ e))
            ];
        apart = λ a b k e f.
            elim (cases_eq a (x i)) [
              | inl ea ↦
                  elim (cases_eq b (x i)) [
                    | inl eb ↦ ea ∙ sym eb
                    | inr eb ↦ let told : k ≡ y' i = cc in omega (arith, g.known b k (sym (olds b eb) ∙ f))
                  ]
              | inr ea ↦
                  elim (cases_eq b (x i)) [
                    | inl eb ↦ let told : k ≡ y' i = cc in omega (arith, g.known a k (sym (olds a ea) ∙ e))
                    | inr eb ↦ g.apart a b k (sym (olds a ea) ∙ e) (sym (olds b eb) ∙ f)
                  ]
            ];
        occurs = below_more (λ k. (s : ℕ) × (s < i + 1) × (y' s ≡ k)) count later (i, omega arith, new);
        ranked = ranked_more (omega arith);
      }

-- the same over lists: a table xs that has become ys, and the numbers of 4096 entries
pub record Ranked (xs ys : List ℕ) (vs : List Slot) (i count : ℕ) : Type 0 where
  pub wide : length vs ≡ 4096
  pub ranking : Ranking (λ s. get_or xs s 0) (λ s. get_or ys s 0) (λ a. content (get_or vs a no_number)) i count

module _ (none : Slot) (empty : none ≡ no_number) where
  unnumbered : (n a : ℕ) → content (get_or (replicate n none) a no_number) ≡ None
  unnumbered n a =
      ap content
      (elim (cases_lt a n) [
        | inl h ↦ get_or-replicate n a none no_number h ∙ empty
        | inr h ↦ get_or-eq_default (replicate n none) no_number (omega (arith, length-replicate n none))
      ])

  pub ranked_none : (xs : List ℕ) → Ranked xs xs (replicate 4096 none) 0 0
  ranked_none xs = record {
    wide = length-replicate 4096 none;
    ranking = rank_none (λ s. get_or xs s 0) (λ a. content (get_or (replicate 4096 none) a no_number)) (unnumbered 4096);
  }

-- the entry a at the place i gets its number, or else the next one
module _ (xs ys : List ℕ) (vs : List Slot) (i a count number : ℕ) (slot : Slot) (within : i < length ys) (inside : a < 4096) (is : a ≡ get_or ys i 0) (has : content slot ≡ Some number) (g : Ranked xs ys vs i count) where
  abbrev before : ℕ → Option ℕ
  before b = content (get_or vs b no_number)

  abbrev behind : ℕ → Option ℕ
  behind b = content (get_or (set vs a slot) b no_number)

  here : a ≡ get_or xs i 0
  here = is ∙ g.ranking.rest i (omega arith)

  wrote : get_or (set ys i number) i 0 ≡ number
  wrote = get_or-set_same ys i number 0 within

  named_here : behind (get_or xs i 0) ≡ Some (get_or (set ys i number) i 0)
  named_here = rw (sym here, wrote) (ap content (get_or-set_same vs a slot no_number (omega (arith, g.wide))) ∙ has)

  others : (s : ℕ) → s ≢ i → get_or (set ys i number) s 0 ≡ get_or ys s 0
  others s ne = get_or-set_other ys i s number 0 ne

  olds : (b : ℕ) → b ≢ get_or xs i 0 → behind b ≡ before b
  olds b ne = ap content (get_or-set_other vs a b slot no_number (λ e. ne (e ∙ here)))

  old : (k : ℕ) → before a ≡ Some k → number ≡ k → Ranking (λ s. get_or xs s 0) (λ s. get_or (set ys i number) s 0) behind (i + 1) count
  old k at told =
      rank_old (λ s. get_or xs s 0) (λ s. get_or ys s 0) (λ s. get_or (set ys i number) s 0) before behind i count others olds named_here g.ranking
      (ap before (sym here) ∙ at ∙ ap Some (sym told ∙ sym wrote))

  new : before a ≡ None → number ≡ count → Ranking (λ s. get_or xs s 0) (λ s. get_or (set ys i number) s 0) behind (i + 1) (count + 1)
  new at told =
      rank_new (λ s. get_or xs s 0) (λ s. get_or ys s 0) (λ s. get_or (set ys i number) s 0) before behind i count others olds named_here g.ranking
      (ap before (sym here) ∙ at) (wrote ∙ told)

  cases : (o : Option ℕ) → before a ≡ o → number ≡ unwrap_or o count → (after : ℕ) → (number ≡ count → after ≡ count + 1) → (number ≢ count → after ≡ count)
      → Ranking (λ s. get_or xs s 0) (λ s. get_or (set ys i number) s 0) behind (i + 1) after
  cases (Some k) at told after up same =
      let low : k < count = g.ranking.known a k at in
      rw (same (λ e. omega (arith, e, told))) (old k at told)
  cases None at told after up same = rw (up told) (new at told)

  pub ranked_next : number ≡ unwrap_or (before a) count → (after : ℕ) → (number ≡ count → after ≡ count + 1) → (number ≢ count → after ≡ count)
      → Ranked xs (set ys i number) (set vs a slot) (i + 1) after
  ranked_next told after up same = record { wide = length-set vs a slot ∙ g.wide; ranking = cases (before a) refl told after up same }

-- all places are numbered
pub ranked_all : (xs ys : List ℕ) (vs : List Slot) (i count : ℕ) → length xs ≤ i → i ≤ length xs → Ranked xs ys vs i count → Renumbered (length xs) xs ys count
ranked_all xs ys vs i count all most r =
    let g = r.ranking in
    let v : ℕ → Option ℕ = λ a. content (get_or vs a no_number) in
    let named : (s : ℕ) → s < length xs → v (get_or xs s 0) ≡ Some (get_or ys s 0) = λ s h. g.named s (omega arith) in
    record {
      few = omega (arith, g.few);
      together = λ s t hs ht. (
        (λ same. g.apart (get_or xs s 0) (get_or xs t 0) (get_or ys t 0) (rw (sym same) (named s hs)) (named t ht)),
        (λ same. let here = named s hs in let there = named t ht in let both : v (get_or xs s 0) ≡ v (get_or xs t 0) = ap v same in cc),
      );
      below = λ s h. g.below s (omega arith);
      occurs = λ k h. let o = g.occurs k h in let before = o.1 in (o.0, omega arith, o.2);
      numbered = λ s k h l. g.ranked s k (omega arith) l;
    }
