-- Results of a line, one after another.
use Rattle.std.proofs.Common.{◌≡◌, ℕ, zero, suc, ◌<◌, ◌≤◌, true, false, List, [], ◌∷◌, ◌++◌, length, Some, None, codes, Option, sym, refl, subst, arith}
use Rattle.std.proofs.lemmas.Bool.{cond_both}
use Rattle.words.specs.Words.{Word, opens_with, after_first, is_name, number_of}
use Rattle.words.proofs.WordFacts.{after_shorter}
use Rattle.conditions.specs.Conditions.{Tree}
use Rattle.conditions.specs.Parser.{ended, condition}
use Rattle.conditions.specs.Variables.{place}
use Rattle.reader.specs.CaseWords.{effect, effects, added, plus, plainly, rule}
use Rattle.reader.specs.declared.rule_set.Effect.{Effect}

-- fewer than n words are left
abbrev Leaves : ℕ → Option (Effect × List Word) → Type 0
Leaves n None = Unit {0}
Leaves n (Some p) = length p.1 < n

plus_leaves : (k n : ℕ) (o : Option ℕ) (ws : List Word) → length ws < n → Leaves n (plus k o ws)
plus_leaves k n None ws lt = tt
plus_leaves k n (Some m) ws lt = lt

added_leaves : (k n : ℕ) (ws : List Word) → length ws < n → Leaves n (added k ws)
added_leaves k n [] lt = tt
added_leaves k n (w ∷ ws) lt = plus_leaves k n (number_of w) ws (omega arith)

plain_leaves : (n : ℕ) (o : Option ℕ) (ws : List Word) → length ws < n → Leaves n (plainly o ws)
plain_leaves n None ws lt = tt
plain_leaves n (Some m) ws lt = lt

effect_leaves : (ns ws : List Word) → Leaves (length ws) (effect ns ws)
effect_leaves ns [] = tt
effect_leaves ns (w ∷ ws) =
    cond_both (is_name w) _ _ (Leaves (suc (length ws))) (λ _. cond_both (opens_with (codes "+") ws) _ _ (Leaves (suc (length ws))) (λ _. added_leaves (place ns w) _ (after_first ws) (omega (arith, after_shorter ws))) (λ _. omega arith)) (λ _. plain_leaves _ (number_of w) ws (omega arith))

module _ (ns : List Word) (es : List Effect) (ws : List Word) where
  pub effects_none : (n : ℕ) → effect ns ws ≡ None → effects ns n es ws ≡ None
  effects_none zero e = refl
  effects_none (suc n) e = rw e

  module _ (x : Effect) (rest : List Word) (is : effect ns ws ≡ Some (x, rest)) where
    pub rest_shorter : length rest < length ws
    rest_shorter = subst (Leaves (length ws)) is (effect_leaves ns ws)

    pub effects_more : (n : ℕ) → length ws ≤ n → opens_with (codes ",") rest ≡ true → (m : ℕ) × (length (after_first rest) ≤ m) × (effects ns m (es ++ x ∷ []) (after_first rest) ≡ effects ns n es ws)
    effects_more zero le s = absurd (omega (arith, rest_shorter))
    effects_more (suc n) le s = (n, omega (arith, rest_shorter, after_shorter rest), sym (rw (is, s)))

    pub effects_end : (n : ℕ) → length ws ≤ n → opens_with (codes ",") rest ≡ false → effects ns n es ws ≡ ended (es ++ x ∷ []) rest
    effects_end zero le s = absurd (omega (arith, rest_shorter))
    effects_end (suc n) le s = rw (is, s)

-- what a condition and `:` leave
module _ (ns ws : List Word) (c : Tree) (rest : List Word) (is : condition ns ws ≡ Some (c, rest)) (s : opens_with (codes ":") rest ≡ true) where
  pub rule_fails : effects ns (length rest) [] (after_first rest) ≡ None → rule ns ws ≡ None
  rule_fails e = rw (is, s, e)
