-- Lines of a block, word by word.
use Rattle.std.proofs.Common.{◌≡◌, ℕ, zero, suc, ◌<◌, ◌≤◌, Bool, true, false, cond, List, [], ◌∷◌, ◌++◌, length, Some, None, codes, Option, sym, refl, ap, ◌∙◌, subst, append_assoc, append-nil, arith, length-append}
use Rattle.std.proofs.lemmas.Bool.{cond-true, cond-false}
use Rattle.words.specs.Words.{Word, opens_with, after_first, is_name, number_of}
use Rattle.conditions.specs.Conditions.{Tree}
use Rattle.conditions.specs.Grammar.{Means, or_level}
use Rattle.conditions.specs.Parser.{ended, Parsed, condition, depth}
use Rattle.conditions.specs.Variables.{place}
use Rattle.conditions.proofs.Complete.{complete}
use Rattle.conditions.proofs.Sound.{first_word, Front, sound}
use Rattle.reader.specs.Cases.{EffectMeans, number, name, sum, EffectsMean, last, next, RuleMeans}
use Rattle.reader.specs.RuleSets.{Rule}
use Rattle.reader.specs.CaseWords.{effect, effects, added, plus, plainly, and_then, ruled, rule}
use Rattle.reader.specs.declared.rule_set.Effect.{Effect}
use Rattle.reader.specs.declared.rule_set.Effect.TheVariants.{Sum}

missing : {A B : Type 0} (x : A) → ◌≡◌ {A = Option A} None (Some x) → B
missing x e = let z : ◌≡◌ {A = ℕ} 0 1 = cc in absurd (omega arith)

-- what was read of the words ws is a result in front of them
abbrev Begins : List Word → List Word → Option (Effect × List Word) → Type 0
Begins ns ws None = Unit {0}
Begins ns ws (Some p) = (front : List Word) × (ws ≡ front ++ p.1) × EffectMeans ns front p.0

plus_begins : (ns : List Word) (w v : Word) (ws rest : List Word) → is_name w ≡ true → ws ≡ codes "+" ∷ v ∷ rest → (o : Option ℕ) → number_of v ≡ o → Begins ns (w ∷ ws) (plus (place ns w) o rest)
plus_begins ns w v ws rest isN is None e = tt
plus_begins ns w v ws rest isN is (Some n) e = (w ∷ codes "+" ∷ v ∷ [], ap (λ x. w ∷ x) is, sum isN e)

added_begins : (ns : List Word) (w : Word) (ws : List Word) → is_name w ≡ true → (rest : List Word) → ws ≡ codes "+" ∷ rest → Begins ns (w ∷ ws) (added (place ns w) rest)
added_begins ns w ws isN [] is = tt
added_begins ns w ws isN (v ∷ rest) is = plus_begins ns w v ws rest isN is (number_of v) refl

name_begins : (ns : List Word) (w : Word) (ws : List Word) → is_name w ≡ true → (b : Bool) → opens_with (codes "+") ws ≡ b → Begins ns (w ∷ ws) (cond b (added (place ns w) (after_first ws)) (Some (Sum (place ns w) 0, ws)))
name_begins ns w ws isN true s = added_begins ns w ws isN (after_first ws) (first_word (codes "+") ws s)
name_begins ns w ws isN false s = (w ∷ [], refl, name isN)

number_begins : (ns : List Word) (w : Word) (ws : List Word) → is_name w ≡ false → (o : Option ℕ) → number_of w ≡ o → Begins ns (w ∷ ws) (plainly o ws)
number_begins ns w ws isN None e = tt
number_begins ns w ws isN (Some n) e = (w ∷ [], refl, number isN e)

word_begins : (ns : List Word) (w : Word) (ws : List Word) (b : Bool) → is_name w ≡ b → Begins ns (w ∷ ws) (cond b (cond (opens_with (codes "+") ws) (added (place ns w) (after_first ws)) (Some (Sum (place ns w) 0, ws))) (plainly (number_of w) ws))
word_begins ns w ws true e = name_begins ns w ws e (opens_with (codes "+") ws) refl
word_begins ns w ws false e = number_begins ns w ws e (number_of w) refl

effect_begins : (ns ws : List Word) → Begins ns ws (effect ns ws)
effect_begins ns [] = tt
effect_begins ns (w ∷ ws) = word_begins ns w ws (is_name w) refl

-- what is read behind es
abbrev Lists : List Word → List Effect → List Word → List Effect → Type 0
Lists ns es ws all = (new : List Effect) × (all ≡ es ++ new) × EffectsMean ns ws new

ended_lists : (ns : List Word) (es : List Effect) (x : Effect) (ws front rest : List Word) (all : List Effect) → ws ≡ front ++ rest → EffectMeans ns front x → ended (es ++ x ∷ []) rest ≡ Some all → Lists ns es ws all
ended_lists ns es x ws front [] all is d e =
    let same : es ++ x ∷ [] ≡ all = cc in
    (x ∷ [], sym same, subst (λ vs. EffectsMean ns vs (x ∷ [])) (sym (is ∙ append-nil front)) (last d))
ended_lists ns es x ws front (w ∷ rest) all is d e = missing all e

effects_sound : (ns : List Word) (n : ℕ) (es : List Effect) (ws : List Word) (all : List Effect) → effects ns n es ws ≡ Some all → Lists ns es ws all
effects_sound ns zero es ws all e = missing all e
effects_sound ns (suc n) es ws all e = go (effect ns ws) (effect_begins ns ws) e (λ vs bs k. effects_sound ns n bs vs all k)
  where
    turn : (x : Effect) (rest front : List Word) → ws ≡ front ++ rest → EffectMeans ns front x → (b : Bool) → opens_with (codes ",") rest ≡ b → cond b (effects ns n (es ++ x ∷ []) (after_first rest)) (ended (es ++ x ∷ []) rest) ≡ Some all → ((vs : List Word) (bs : List Effect) → effects ns n bs vs ≡ Some all → Lists ns bs vs all) → Lists ns es ws all
    turn x rest front is d true s h ih =
        let t = ih (after_first rest) (es ++ x ∷ []) h in
        (x ∷ t.0, t.1 ∙ append_assoc es (x ∷ []) t.0, subst (λ vs. EffectsMean ns vs (x ∷ t.0)) (sym (is ∙ ap (λ v. front ++ v) (first_word (codes ",") rest s))) (next d t.2))
    turn x rest front is d false s h ih = ended_lists ns es x ws front rest all is d h

    go : (o : Option (Effect × List Word)) → Begins ns ws o → and_then o (λ x rest. cond (opens_with (codes ",") rest) (effects ns n (es ++ x ∷ []) (after_first rest)) (ended (es ++ x ∷ []) rest)) ≡ Some all → ((vs : List Word) (bs : List Effect) → effects ns n bs vs ≡ Some all → Lists ns bs vs all) → Lists ns es ws all
    go None b h ih = missing all h
    go (Some p) b h ih = turn p.0 p.1 b.0 b.1 b.2 (opens_with (codes ",") p.1) refl h ih

result_some : {ns us : List Word} {e : Effect} → EffectMeans ns us e → 0 < length us
result_some (number n e) = omega arith
result_some (name n) = omega arith
result_some (sum n e) = omega arith

effect_complete : {ns us : List Word} {e : Effect} → EffectMeans ns us e → (rest : List Word) → opens_with (codes "+") rest ≡ false → effect ns (us ++ rest) ≡ Some (e, rest)
effect_complete {ns} (number {w = w} isN e) rest s = cond-false _ _ _ isN ∙ ap (λ o. plainly o rest) e
effect_complete {ns} (name {w = w} isN) rest s = cond-true _ _ _ isN ∙ cond-false _ _ _ s
effect_complete {ns} (sum {w = w} {v = v} isN e) rest s = cond-true _ _ _ isN ∙ ap (λ o. plus (place ns w) o rest) e

effects_complete : {ns ws : List Word} {es : List Effect} → EffectsMean ns ws es → (n : ℕ) → length ws ≤ n → (before : List Effect) → effects ns n before ws ≡ Some (before ++ es)
effects_complete {ns} (last {ws = ws} d) zero le before = absurd (omega (arith, result_some d))
effects_complete {ns} (last {ws = ws} {e = e} d) (suc n) le before =
    let is : effect ns ws ≡ Some (e, []) = subst (λ vs. effect ns vs ≡ Some (e, [])) (append-nil ws) (effect_complete d [] refl) in
    rw is
effects_complete {ns} (next {us = us} {ws = ws} d ds) zero le before = absurd (omega (arith, result_some d, length-append us (codes "," ∷ ws)))
effects_complete {ns} (next {us = us} {ws = ws} {e = e} {es = es} d ds) (suc n) le before =
    let is : effect ns (us ++ codes "," ∷ ws) ≡ Some (e, codes "," ∷ ws) = effect_complete d (codes "," ∷ ws) refl in
    let rest = effects_complete ds n (omega (arith, result_some d, length-append us (codes "," ∷ ws))) (before ++ e ∷ []) in
    rw is (rest ∙ ap Some (append_assoc before (e ∷ []) es))

ruled_some : (c : Tree) (o : Option (List Effect)) (r : Rule) → ruled c o ≡ Some r → (c ≡ r.when) × (o ≡ Some r.results)
ruled_some c None r e = missing r e
ruled_some c (Some es) r e =
    let same : ◌≡◌ {A = Rule} (record { when = c; results = es }) r = cc in
    (ap (λ (x : Rule). x.when) same, ap (λ (x : Rule). Some x.results) same)

pub rule_sound : (ns ws : List Word) (r : Rule) → rule ns ws ≡ Some r → RuleMeans ns ws r
rule_sound ns ws r e = go (condition ns ws) (sound ns (depth or_level ws) or_level ws) e
  where
    turn : (c : Tree) (rest front : List Word) → ws ≡ front ++ rest → Means ns or_level front c → (b : Bool) → opens_with (codes ":") rest ≡ b → cond b (ruled c (effects ns (length rest) [] (after_first rest))) None ≡ Some r → RuleMeans ns ws r
    turn c rest front is d true s h =
        let p = ruled_some c (effects ns (length rest) [] (after_first rest)) r h in
        let t = effects_sound ns (length rest) [] (after_first rest) r.results p.1 in
        record { front = front; back = after_first rest; parted = is ∙ ap (λ v. front ++ v) (first_word (codes ":") rest s); when = subst (Means ns or_level front) p.0 d; results = subst (EffectsMean ns (after_first rest)) (sym t.1) t.2 }
    turn c rest front is d false s h = missing r h

    go : (o : Parsed) → Front ns or_level ws o → and_then o (λ c rest. cond (opens_with (codes ":") rest) (ruled c (effects ns (length rest) [] (after_first rest))) None) ≡ Some r → RuleMeans ns ws r
    go None f h = missing r h
    go (Some p) f h = turn p.0 p.1 f.0 f.1 f.2 (opens_with (codes ":") p.1) refl h

pub rule_complete : (ns ws : List Word) (r : Rule) → RuleMeans ns ws r → rule ns ws ≡ Some r
rule_complete ns ws r h =
    let front = h.front in
    let back = h.back in
    let read : condition ns (front ++ codes ":" ∷ back) ≡ Some (r.when, codes ":" ∷ back) = complete h.when (codes ":" ∷ back) (refl, refl) (depth or_level (front ++ codes ":" ∷ back)) (omega arith) in
    let es : effects ns (suc (length back)) [] back ≡ Some r.results = effects_complete h.results (suc (length back)) (omega arith) [] in
    ap (rule ns) h.parted ∙ ap (λ o. and_then o (λ c rest. cond (opens_with (codes ":") rest) (ruled c (effects ns (length rest) [] (after_first rest))) None)) read ∙ ap (ruled r.when) es
