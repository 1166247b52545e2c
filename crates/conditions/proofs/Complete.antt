-- What the grammar derives is read.
use Rattle.std.proofs.Common.{◌≡◌, ℕ, ◌≤◌, true, false, List, [], ◌∷◌, ◌++◌, length, Some, codes, sym, refl, ap, ◌∙◌, inl, inr, append_assoc, arith, length-append}
use Rattle.std.specs.Str.{bytes_eq}
use Rattle.std.proofs.lemmas.Slice.Eq.{bytes_eq-Decides}
use Rattle.std.proofs.lemmas.Bool.{cases_Bool, false≢true, cond-true, cond-false}
use Rattle.words.specs.Words.{Word, is_name, opens_with}
use Rattle.conditions.specs.Conditions.{Tree}
use Rattle.conditions.specs.Grammar.{Means, comparing, constant, bracket, plain, negated, one_and, more_and, one_or, more_or, Level, or_level, and_level, not_level, base_level}
use Rattle.conditions.specs.Parser.{parse, depth, compared}
use Rattle.conditions.specs.Variables.{place}
use Rattle.conditions.proofs.LevelFacts.{deep}

-- a name is no word that is none
no_name : (a w : Word) → is_name w ≡ false → is_name a ≡ true → bytes_eq a w ≡ false
no_name a w f t =
    elim (cases_Bool (bytes_eq a w)) [ inl e ↦ absurd (false≢true (sym f ∙ ap is_name (sym ((bytes_eq-Decides a w).0 e)) ∙ t)) | inr e ↦ e ]

-- no word of a list that goes on behind a condition of a level
abbrev Stops : Level → List Word → Type 0
Stops or_level rest = (opens_with (codes "or") rest ≡ false) × (opens_with (codes "and") rest ≡ false)
Stops and_level rest = opens_with (codes "and") rest ≡ false
Stops not_level rest = Unit {0}
Stops base_level rest = Unit {0}

-- a condition without `not` in front
unnegated : {ns ws : List Word} {t : Tree} → Means ns base_level ws t → (rest : List Word) → opens_with (codes "not") (ws ++ rest) ≡ false
unnegated (comparing {a = a} n r o) rest = no_name a (codes "not") refl n
unnegated constant rest = refl
unnegated (bracket d) rest = refl

pub complete : {ns ws : List Word} {l : Level} {t : Tree} → Means ns l ws t → (rest : List Word) → Stops l rest → (n : ℕ) → depth l (ws ++ rest) ≤ n → parse ns n l (ws ++ rest) ≡ Some (t, rest)
complete {ns} (comparing {a = a} {b = b} {o = o} isN isR isO) rest stops =
    deep _ (λ n. parse ns n base_level (a ∷ b ∷ o ∷ rest) ≡ _) (omega arith) (λ n le. cond-false _ _ _ (no_name a (codes "(") refl isN) ∙ cond-false _ _ _ (no_name a (codes "always") refl isN) ∙ cond-true _ _ _ isN ∙ (λ i. compared (place ns a) (isR i) (isO i) rest))
complete {ns} constant rest stops = deep _ (λ n. parse ns n base_level (codes "always" ∷ rest) ≡ _) (omega arith) (λ n le. refl)
complete {ns} (bracket {ws = ws} d) rest stops =
    let group = append_assoc ws (codes ")" ∷ []) rest in
    deep _ (λ n. parse ns n base_level (codes "(" ∷ ((ws ++ codes ")" ∷ []) ++ rest)) ≡ _) (omega arith) (λ n le.
    rw (group, complete d (codes ")" ∷ rest) (refl, refl) n (omega (arith, ap length group))))
complete {ns} (plain {ws = ws} d) rest stops =
    deep _ (λ n. parse ns n not_level (ws ++ rest) ≡ _) (omega arith) (λ n le. rw (unnegated d rest, complete d rest tt n (omega arith)))
complete {ns} (negated {ws = ws} d) rest stops =
    deep _ (λ n. parse ns n not_level (codes "not" ∷ (ws ++ rest)) ≡ _) (omega arith) (λ n le. rw (complete d rest tt n (omega arith)))
complete {ns} (one_and {ws = ws} d) rest stops =
    deep _ (λ n. parse ns n and_level (ws ++ rest) ≡ _) (omega arith) (λ n le. rw (complete d rest tt n (omega arith), stops))
complete {ns} (more_and {us = us} {ws = ws} d e) rest stops =
    let group = append_assoc us (codes "and" ∷ ws) rest in
    deep _ (λ n. parse ns n and_level ((us ++ codes "and" ∷ ws) ++ rest) ≡ _) (omega arith) (λ n le.
    rw (group, complete d (codes "and" ∷ (ws ++ rest)) tt n (omega (arith, ap length group)), complete e rest stops n (omega (arith, ap length group, length-append us (codes "and" ∷ (ws ++ rest))))))
complete {ns} (one_or {ws = ws} d) rest stops =
    deep _ (λ n. parse ns n or_level (ws ++ rest) ≡ _) (omega arith) (λ n le. rw (complete d rest stops.1 n (omega arith), stops.0))
complete {ns} (more_or {us = us} {ws = ws} d e) rest stops =
    let group = append_assoc us (codes "or" ∷ ws) rest in
    deep _ (λ n. parse ns n or_level ((us ++ codes "or" ∷ ws) ++ rest) ≡ _) (omega arith) (λ n le.
    rw (group, complete d (codes "or" ∷ (ws ++ rest)) refl n (omega (arith, ap length group)), complete e rest stops n (omega (arith, ap length group, length-append us (codes "or" ∷ (ws ++ rest))))))
