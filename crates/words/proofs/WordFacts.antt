-- Tests along a list of bytes or words, element by element.
use Rattle.std.proofs.Common.{lit<, ◌*◌, ◌-◌, ◌^◌, Bor, Iter, Some, ◌≡◌, ℕ, ◌+◌, ◌<◌, ◌≤◌, Bool, true, false, not, cond, ◌&&◌, eqb, List, [], ◌∷◌, length, get_or, drop, sym, refl, ap, add-one, ◌∙◌, arith}
use Rattle.std.proofs.lemmas.List.{at_drop_more}
use Rattle.std.proofs.lemmas.Grind.{common_steps}
use Rattle.std.proofs.lemmas.Bool.{and_parts, leb-true, ne_eqb, false≢true}
use Rattle.std.proofs.Math.Nat.{pow-suc, pow-le-pow_right}
use Rattle.std.specs.Iterator.{Yields}
use Rattle.std.proofs.lemmas.Fn.{fronts}
use Rattle.std.specs.List.{FoldsTo, fold, list_all, slice_split, onto_first}
use Rattle.words.specs.Texts.{spaced}
use Rattle.words.specs.Words.{digit, decimal, Word, opens_with, after_first, each}

-- `each` is what the library calls `list_all`
pub each_is : {A : Type 0} (f : A → Bool) (xs : List A) → each f xs ≡ list_all f xs
each_is f [] = refl
each_is f (x ∷ xs) = ap (λ t. f x && t) (each_is f xs)

-- behind its first i elements w has those of v, and no more
abbrev pub Spells : List ℕ → ℕ → List ℕ → Type 0
Spells w i [] = length w ≡ i
Spells w i (b ∷ v) = (i < length w) × (get_or w i 0 ≡ b) × Spells w (i + 1) v

pub spelled : (w : List ℕ) (i : ℕ) (v : List ℕ) → Spells w i v → drop i w ≡ v
spelled w i [] h = grind (arith, common_steps, h)
spelled w i (b ∷ v) h = at_drop_more (λ l. l) w i 0 h.0 ∙ (λ j. h.1 j ∷ spelled w (i + 1) v h.2 j)

-- the fold that the code runs is `decimal`
pub decimal_is : (n : ℕ) (bs : List ℕ) → fold (λ m b. m * 10 + (b - 48)) n bs ≡ decimal n bs
decimal_is n [] = refl
decimal_is n (b ∷ bs) = decimal_is (n * 10 + (b - 48)) bs

digit_range : (b : ℕ) → digit b ≡ true → (48 ≤ b) × (b ≤ 57)
digit_range b e =
    let p = and_parts _ _ e in
    (leb-true _ _ p.0, leb-true _ _ p.1)

digits_parts : (bs : List ℕ) (b : ℕ) (more : List ℕ) → bs ≡ b ∷ more → each digit bs ≡ true → (48 ≤ b) × (b ≤ 57) × (each digit more ≡ true)
digits_parts bs b more is e =
    let p = and_parts _ _ (sym (ap (each digit) is) ∙ e) in
    let range = digit_range b p.0 in
    (range.0, range.1, p.1)

-- a fold that writes at most four digits: before each, its number is small
module _ {F : Type 0} (R : F × ℕ → Bor ℕ → F × ℕ → Type 0) (writes : (p : F × ℕ) (x : Bor ℕ) (v : F × ℕ) → R p x v → v.1 ≡ p.1 * 10 + (x.now - 48)) where
  pub few_digits : (k : ℕ) (xs : List (Bor ℕ)) (s t u : Iter ℕ) (p q : F × ℕ) (x : Bor ℕ) → p.1 < 10 ^ k → k + length s.rest.now ≤ 4 → each digit s.rest.now ≡ true → Yields fronts s xs t → FoldsTo R p xs q → fronts t (Some x) u → (q.1 < 1000) × (48 ≤ x.now) × (x.now ≤ 57)
  few_digits k [] s t u p q x small few digits same ends turn =
      let here : s.rest.now ≡ x.now ∷ u.rest.now = ap (λ (z : Iter ℕ). z.rest.now) same ∙ turn in
      let range = digits_parts _ _ _ here digits in
      let le : k ≤ 3 = omega (arith, ap length here) in
      let pos : 0 < 10 = lit< tt in
      let most : 10 ^ k ≤ 10 ^ 3 = pow-le-pow_right pos le in
      (omega (arith, ap (λ (r : F × ℕ). r.1) ends), range.0, range.1)
  few_digits k (y ∷ xs) s t u p q x small few digits go chain turn =
      let parts = digits_parts _ _ _ go.1 digits in
      let next : 10 ^ (k + 1) ≡ 10 ^ k * 10 = ap (λ n. 10 ^ n) (add-one k) ∙ pow-suc 10 k in
      few_digits (k + 1) xs go.0 t u chain.0 q x (omega (arith, next, writes p y chain.0 chain.1, parts.0, parts.1)) (omega (arith, ap length go.1)) parts.2 go.2 chain.2 turn

-- not empty
abbrev pub full : List ℕ → Bool
full w = not (eqb (length w) 0)

-- spaces stand as they have to exactly if no word is empty; behind the start of a word that is not counted, the first one may be
words_full : (after : Bool) (l : List ℕ) → cond after (list_all full (slice_split (λ b. eqb b 32) l)) (list_all full (after_first (slice_split (λ b. eqb b 32) l))) ≡ spaced after l
words_full true [] = refl
words_full false [] = refl
words_full after (b ∷ bs) = step after (eqb b 32) (words_full true bs) (words_full false bs)
  where
    step : (after c : Bool) → list_all full (slice_split (λ d. eqb d 32) bs) ≡ spaced true bs → list_all full (after_first (slice_split (λ d. eqb d 32) bs)) ≡ spaced false bs → cond after (list_all full (cond c ([] ∷ slice_split (λ d. eqb d 32) bs) (onto_first b (slice_split (λ d. eqb d 32) bs)))) (list_all full (after_first (cond c ([] ∷ slice_split (λ d. eqb d 32) bs) (onto_first b (slice_split (λ d. eqb d 32) bs))))) ≡ cond c (not after && spaced true bs) (spaced false bs)
    step true true s t = refl
    step false true s t = s
    step true false s t = opened (slice_split (λ d. eqb d 32) bs) ∙ t
      where
        opened : (ws : List (List ℕ)) → list_all full (onto_first b ws) ≡ list_all full (after_first ws)
        opened [] = refl
        opened (w ∷ ws) = ap (λ t. not t && list_all full ws) (ne_eqb (length (b ∷ w)) 0 (λ e. absurd (omega arith)))
    step false false s t = opened (slice_split (λ d. eqb d 32) bs) ∙ t
      where
        opened : (ws : List (List ℕ)) → list_all full (after_first (onto_first b ws)) ≡ list_all full (after_first ws)
        opened [] = refl
        opened (w ∷ ws) = refl

pub spaced_is : (l : List ℕ) → list_all full (slice_split (λ b. eqb b 32) l) ≡ spaced true l
spaced_is = words_full true

pub after_shorter : (ws : List Word) → length (after_first ws) ≤ length ws
after_shorter [] = omega arith
after_shorter (w ∷ ws) = omega arith

pub opens_some : (w : Word) (ws : List Word) → opens_with w ws ≡ true → length (after_first ws) < length ws
opens_some w [] e = absurd (false≢true e)
opens_some w (v ∷ ws) e = omega arith
