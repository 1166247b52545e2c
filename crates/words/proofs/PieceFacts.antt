-- Where a list of bytes is cut.
use Rattle.std.proofs.Common.{◌≡◌, ℕ, zero, suc, ◌<◌, ◌≤◌, eqb, List, [], ◌∷◌, length, get_or, take, drop, sym, ap, ◌∙◌, ◌+◌, ◌-◌, Some, None, true-eqb, add-one, length-drop, arith}
use Rattle.std.specs.List.{position, position_or_len}
use Rattle.std.proofs.lemmas.List.{take_all, take_rest, nil_from_length}
use Rattle.std.proofs.lemmas.List.Quantifiers.{position-Some}
use Rattle.std.proofs.lemmas.List.Sums.{fails_before_first}
use Rattle.std.proofs.lemmas.Bool.Decides.{nat_tests}
use Rattle.std.proofs.lemmas.Bool.{false≢true, cond-true, cond-false, cond_both, eq-eqb, ne_eqb}
use Rattle.words.specs.Pieces.{pieces, glued}

-- the first byte e of s, or the end of s, stands at n
pub record Ends (e n : ℕ) (s : List ℕ) : Type 0 where
  pub some : 0 < length s
  pub within : n ≤ length s
  pub before : (k : ℕ) → k < n → get_or s k 0 ≡ e → ⊥
  pub found : n < length s → get_or s n 0 ≡ e

pub pieces_cut : (e n : ℕ) (s : List ℕ) → Ends e n s → pieces e s ≡ take n s ∷ pieces e (drop (suc n) s)
pieces_cut e n [] h = absurd (omega (arith, h.some))
pieces_cut e zero (b ∷ bs) h = cond-true _ _ _ (eq-eqb b e (h.found (omega (arith, h.some))))
pieces_cut e (suc n) (b ∷ []) h =
    let z : n ≡ zero = omega (arith, h.within) in
    cond-false _ _ _ (ne_eqb b e (h.before 0 (omega arith))) ∙ ap (λ k. take (suc k) (b ∷ []) ∷ pieces e (drop (suc (suc k)) (b ∷ []))) (sym z)
pieces_cut e (suc n) (b ∷ d ∷ bs) h =
    let below : Ends e n (d ∷ bs) = record {
      some = omega arith;
      within = omega (arith, h.within);
      before = λ k lt. h.before (suc k) (omega arith);
      found = λ lt. h.found (omega arith);
    } in
    cond-false _ _ _ (ne_eqb b e (h.before 0 (omega arith))) ∙ ap (glued b) (pieces_cut e n (d ∷ bs) below)

-- where `position` finds the byte e
pub cut_found : (e n : ℕ) (s : List ℕ) → position (λ b. eqb b e) s ≡ Some n → pieces e s ≡ take n s ∷ pieces e (take (length s - (n + 1)) (drop (n + 1) s))
cut_found e n s h =
    let p = position-Some (λ b. eqb b e) s n 0 h in
    let ends : Ends e n s = record { some = omega arith; within = omega arith; before = λ k lt is. false≢true (sym (p.2 k lt) ∙ eq-eqb _ _ is); found = λ lt. true-eqb _ _ (sym p.1) } in
    pieces_cut e n s ends ∙ ap (λ r. take n s ∷ pieces e r) (sym (take_rest s (n + 1) ∙ ap (λ k. drop k s) (add-one n)))

pub cut_last : (e : ℕ) (s : List ℕ) → 0 < length s → position (λ b. eqb b e) s ≡ None → pieces e s ≡ s ∷ []
cut_last e s some h =
    let first = position_or_len (λ b. eqb b e) s in
    let last : length s ≤ first = grind (arith, nat_tests) in
    let ends : Ends e (length s) s = record { some = some; within = omega arith; before = λ k lt is. false≢true (sym (fails_before_first (λ b. eqb b e) s k 0 (omega arith)) ∙ eq-eqb _ _ is); found = λ lt. absurd (omega arith) } in
    pieces_cut e (length s) s ends ∙ (λ i. take_all (length s) s (omega arith) i ∷ pieces e (nil_from_length (drop (suc (length s)) s) (omega (arith, length-drop (suc (length s)) s)) i))

-- has a first element
abbrev pub Full : {A : Type 0} → List A → Type 0
Full [] = ⊥
Full (x ∷ xs) = Unit {0}

glued_full : (b : ℕ) (ws : List (List ℕ)) → Full (glued b ws)
glued_full b [] = tt
glued_full b (w ∷ ws) = tt

pub pieces_full : (e : ℕ) (s : List ℕ) → 0 < length s → Full (pieces e s)
pieces_full e [] h = absurd (omega arith)
pieces_full e (b ∷ bs) h = cond_both (eqb b e) _ _ Full (λ _. tt) (λ _. glued_full b (pieces e bs))
