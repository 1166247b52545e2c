-- Linking the places of each number from the last to the first.
use Rattle.std.proofs.Common.{◌≡◌, ℕ, ◌+◌, ◌<◌, ◌≤◌, true, List, length, get_or, take, set, Some, None, Option, sym, ap, ◌∙◌, subst, inl, inr, arith}
use Rattle.std.proofs.lemmas.Bool.{cases_eq, and_parts, and_from, ltb-true, eqb-true, lt-ltb, eq-eqb}
use Rattle.std.proofs.lemmas.List.{get_or-set_same, get_or-set_other, length-set, get_or-take, length-take-le}
use Rattle.rules.specs.Next.{LowestFrom}
use Rattle.sheets.specs.Links.{stands, Linked}
use Rattle.sheets.specs.Slots.{content, no_number}
use Rattle.sheets.specs.declared.slot.Slot.{Slot}

stands_below : (xs : List ℕ) (k i : ℕ) → stands xs k i ≡ true → i < length xs
stands_below xs k i e = ltb-true i (length xs) (and_parts _ _ e).0

stands_at : (xs : List ℕ) (k i : ℕ) → stands xs k i ≡ true → get_or xs i 0 ≡ k
stands_at xs k i e = eqb-true (get_or xs i 0) k (and_parts _ _ e).1

-- where k does not stand at i, its lowest place from i on is the one from i + 1 on
lowest_down : (p : ℕ → _) (i : ℕ) (o : Option ℕ) → (p i ≡ true → ⊥) → LowestFrom p (i + 1) o → LowestFrom p i o
lowest_down p i None not low = λ v h e.
    elim (cases_eq v i) [ inl s ↦ not (subst (λ w. p w ≡ true) s e) | inr d ↦ low v (omega arith) e ]
lowest_down p i (Some t) not low =
    (omega (arith, low.0), low.1, λ v h e. elim (cases_eq v i) [ inl s ↦ absurd (not (subst (λ w. p w ≡ true) s e)) | inr d ↦ low.2 v (omega arith) e ])

pub link_none : (xs : List ℕ) (first after : List Slot) (n : ℕ) → length xs ≡ n → ((k : ℕ) → k < length first → content (get_or first k no_number) ≡ None) → Linked xs n first after
link_none xs first after n e none = record {
  firsts = λ k h. subst (LowestFrom (stands xs k) n) (sym (none k h)) (λ v l is. let b = stands_below xs k v is in absurd (omega arith));
  afters = λ s h l. absurd (omega arith);
}

-- one place more, at which k stands
pub link_more : (xs : List ℕ) (first after : List Slot) (i k : ℕ) (here : Slot) → get_or xs i 0 ≡ k → i < length xs → i < length after → k < length first → content here ≡ Some i → Linked xs (i + 1) first after
    → Linked xs i (set first k here) (set after i (get_or first k no_number))
link_more xs first after i k here at within room known is g =
    record {
      firsts = λ l h.
          elim (cases_eq l k) [
            | inl e ↦
                subst (LowestFrom (stands xs l) i) (sym (ap (λ j. content (get_or (set first k here) j no_number)) e ∙ ap content (get_or-set_same first k here no_number known) ∙ is))
                (omega arith, and_from _ _ (lt-ltb i (length xs) within) (eq-eqb (get_or xs i 0) l (at ∙ sym e)), λ v b is. b)
            | inr e ↦
                subst (λ o. LowestFrom (stands xs l) i (content o)) (sym (get_or-set_other first k l here no_number e))
                (lowest_down (stands xs l) i _ (λ is. e (sym (stands_at xs l i is) ∙ at)) (g.firsts l (omega (arith, length-set first k here))))
          ];
      afters = λ s h l.
          elim (cases_eq s i) [
            | inl e ↦
                subst (λ j. LowestFrom (stands xs (get_or xs j 0)) (j + 1) (content (get_or (set after i (get_or first k no_number)) j no_number))) (sym e)
                (subst (λ o. LowestFrom (stands xs (get_or xs i 0)) (i + 1) (content o)) (sym (get_or-set_same after i (get_or first k no_number) no_number room))
                (subst (λ j. LowestFrom (stands xs j) (i + 1) (content (get_or first k no_number))) (sym at) (g.firsts k known)))
            | inr e ↦ subst (λ o. LowestFrom (stands xs (get_or xs s 0)) (s + 1) (content o)) (sym (get_or-set_other after i s (get_or first k no_number) no_number e)) (g.afters s (omega arith) l)
          ];
    }

-- the next place of the number at s, in a table of which the first n entries are linked
pub linked_after : (n : ℕ) (table : List ℕ) (first after : List Slot) → Linked (take n table) 0 first after → n ≤ length table → (s : ℕ) → s < n
    → LowestFrom (stands (take n table) (get_or table s 0)) (s + 1) (content (get_or after s no_number))
linked_after n table first after g room s h =
    subst (λ k. LowestFrom (stands (take n table) k) (s + 1) (content (get_or after s no_number))) (get_or-take n table s 0 h) (g.afters s (omega arith) (omega (arith, length-take-le n table room)))
