-- What is read is derived by the grammar.
use Rattle.std.proofs.Common.{◌≡◌, ℕ, zero, suc, Bool, true, false, cond, List, [], ◌∷◌, ◌++◌, length, Some, None, Ok, Err, codes, Option, Result, sym, refl, ap, ◌∙◌, subst, subst₂, append_assoc, append-nil, arith}
use Rattle.std.proofs.lemmas.Slice.Eq.{bytes_eq-Decides}
use Rattle.std.proofs.lemmas.Bool.{false≢true}
use Rattle.words.specs.Words.{Word, is_name, opens_with, after_first}
use Rattle.conditions.specs.Answers.{Formed, Takes, ParserExact}
use Rattle.conditions.specs.Conditions.{tree, Tree, always, not, both, either}
use Rattle.conditions.specs.Grammar.{Means, comparing, constant, bracket, plain, negated, one_and, more_and, one_or, more_or, Level, or_level, and_level, not_level, base_level, relation, operand}
use Rattle.conditions.specs.Parser.{alone, ended, Parsed, then, comparison, compared, parse, depth, condition}
use Rattle.conditions.specs.Variables.{place}
use Rattle.conditions.specs.declared.condition.Cond.{Cond}
use Rattle.conditions.specs.declared.fault.ConditionFault.{ConditionFault}
use Rattle.conditions.specs.declared.fault.ConditionFault.TheVariants as fault
use Rattle.conditions.specs.declared.condition.Relation.{Relation}
use Rattle.conditions.specs.declared.condition.Operand.{Operand}
use Rattle.conditions.proofs.Complete.{complete}

-- p was read of the words ws: the front of them derives it
abbrev pub Front : List Word → Level → List Word → Parsed → Type 0
Front ns l ws None = Unit {0}
Front ns l ws (Some p) = (front : List Word) × (ws ≡ front ++ p.1) × Means ns l front p.0

pub first_word : (w : Word) (ws : List Word) → opens_with w ws ≡ true → ws ≡ w ∷ after_first ws
first_word w [] e = absurd (false≢true e)
first_word w (v ∷ ws) e = ap (λ x. x ∷ ws) ((bytes_eq-Decides v w).0 e)

-- a right side behind the word w
second : (ns ws : List Word) (l below : Level) (w : Word) (make : Tree → Tree → Tree) (one : (us : List Word) (s : Tree) → Means ns below us s → Means ns l us s) (two : (us vs : List Word) (s t : Tree) → Means ns below us s → Means ns l vs t → Means ns l (us ++ w ∷ vs) (make s t)) (c : Tree) (mid front : List Word) → ws ≡ front ++ mid → Means ns below front c → (right : Parsed) → Front ns l (after_first mid) right → (b : Bool) → opens_with w mid ≡ b → Front ns l ws (cond b (then right (λ d last. Some (make c d, last))) (Some (c, mid)))
second ns ws l below w make one two c mid front is d None f true s = tt
second ns ws l below w make one two c mid front is d (Some p) f true s =
    (front ++ w ∷ f.0, is ∙ ap (λ x. front ++ x) (first_word w mid s ∙ ap (λ x. w ∷ x) f.1) ∙ sym (append_assoc front (w ∷ f.0) p.1), two front f.0 c p.0 d f.2)
second ns ws l below w make one two c mid front is d right f false s = (front, is, one front c d)

joined_front : (ns ws : List Word) (l below : Level) (w : Word) (make : Tree → Tree → Tree) (one : (us : List Word) (s : Tree) → Means ns below us s → Means ns l us s) (two : (us vs : List Word) (s t : Tree) → Means ns below us s → Means ns l vs t → Means ns l (us ++ w ∷ vs) (make s t)) (left : Parsed) (right : List Word → Parsed) → Front ns below ws left → ((vs : List Word) → Front ns l vs (right vs)) → Front ns l ws (then left (λ c rest. cond (opens_with w rest) (then (right (after_first rest)) (λ d last. Some (make c d, last))) (Some (c, rest))))
joined_front ns ws l below w make one two None right f h = tt
joined_front ns ws l below w make one two (Some p) right f h =
    second ns ws l below w make one two p.0 p.1 f.0 f.1 f.2 (right (after_first p.1)) (h (after_first p.1)) (opens_with w p.1) refl

negated_front : (ns ws : List Word) (again below : Parsed) → Front ns not_level (after_first ws) again → Front ns base_level ws below → (b : Bool) → opens_with (codes "not") ws ≡ b → Front ns not_level ws (cond b (then again (λ c rest. Some (not c, rest))) below)
negated_front ns ws None below f k true s = tt
negated_front ns ws (Some p) below f k true s = (codes "not" ∷ f.0, first_word (codes "not") ws s ∙ ap (λ x. codes "not" ∷ x) f.1, negated f.2)
negated_front ns ws again None f k false s = tt
negated_front ns ws again (Some p) f k false s = (k.0, k.1, plain k.2)

closed_front : (ns ws : List Word) (c : Tree) (rest front : List Word) → opens_with (codes "(") ws ≡ true → after_first ws ≡ front ++ rest → Means ns or_level front c → (b : Bool) → opens_with (codes ")") rest ≡ b → Front ns base_level ws (cond b (Some (c, after_first rest)) None)
closed_front ns ws c rest front s is d true e =
    (codes "(" ∷ (front ++ codes ")" ∷ []), first_word (codes "(") ws s ∙ ap (λ x. codes "(" ∷ x) (is ∙ ap (λ x. front ++ x) (first_word (codes ")") rest e) ∙ sym (append_assoc front (codes ")" ∷ []) (after_first rest))), bracket d)
closed_front ns ws c rest front s is d false e = tt

compared_front : (ns : List Word) (a b o : Word) (rest : List Word) (r : Option Relation) (x : Option Operand) → is_name a ≡ true → relation b ≡ r → operand ns o ≡ x → Front ns base_level (a ∷ b ∷ o ∷ rest) (compared (place ns a) r x rest)
compared_front ns a b o rest None x isN isR isO = tt
compared_front ns a b o rest (Some r) None isN isR isO = tt
compared_front ns a b o rest (Some r) (Some x) isN isR isO = (a ∷ b ∷ o ∷ [], refl, comparing isN isR isO)

named_front : (ns : List Word) (a b o : Word) (rest : List Word) (t : Bool) → is_name a ≡ t → Front ns base_level (a ∷ b ∷ o ∷ rest) (cond t (compared (place ns a) (relation b) (operand ns o) rest) None)
named_front ns a b o rest true e = compared_front ns a b o rest (relation b) (operand ns o) e refl refl
named_front ns a b o rest false e = tt

comparison_front : (ns ws : List Word) → Front ns base_level ws (comparison ns ws)
comparison_front ns [] = tt
comparison_front ns (a ∷ []) = tt
comparison_front ns (a ∷ b ∷ []) = tt
comparison_front ns (a ∷ b ∷ o ∷ rest) = named_front ns a b o rest (is_name a) refl

plain_front : (ns ws : List Word) (b : Bool) → opens_with (codes "always") ws ≡ b → Front ns base_level ws (cond b (Some (always, after_first ws)) (comparison ns ws))
plain_front ns ws true s = (codes "always" ∷ [], first_word (codes "always") ws s, constant)
plain_front ns ws false s = comparison_front ns ws

base_front : (ns ws : List Word) (whole : Parsed) → Front ns or_level (after_first ws) whole → (b : Bool) → opens_with (codes "(") ws ≡ b → Front ns base_level ws (cond b (then whole (λ c rest. cond (opens_with (codes ")") rest) (Some (c, after_first rest)) None)) (cond (opens_with (codes "always") ws) (Some (always, after_first ws)) (comparison ns ws)))
base_front ns ws None f true s = tt
base_front ns ws (Some p) f true s = closed_front ns ws p.0 p.1 f.0 s f.1 f.2 (opens_with (codes ")") p.1) refl
base_front ns ws whole f false s = plain_front ns ws (opens_with (codes "always") ws) refl

pub sound : (ns : List Word) (n : ℕ) (l : Level) (ws : List Word) → Front ns l ws (parse ns n l ws)
sound ns zero l ws = tt
sound ns (suc n) or_level ws = joined_front ns ws or_level and_level (codes "or") either (λ us s d. one_or d) (λ us vs s t d e. more_or d e) (parse ns n and_level ws) (parse ns n or_level) (sound ns n and_level ws) (sound ns n or_level)
sound ns (suc n) and_level ws = joined_front ns ws and_level not_level (codes "and") both (λ us s d. one_and d) (λ us vs s t d e. more_and d e) (parse ns n not_level ws) (parse ns n and_level) (sound ns n not_level ws) (sound ns n and_level)
sound ns (suc n) not_level ws = negated_front ns ws (parse ns n not_level (after_first ws)) (parse ns n base_level ws) (sound ns n not_level (after_first ws)) (sound ns n base_level ws) (opens_with (codes "not") ws) refl
sound ns (suc n) base_level ws = base_front ns ws (parse ns n or_level (after_first ws)) (sound ns n or_level (after_first ws)) (opens_with (codes "(") ws) refl

lone : (ns ws : List Word) (t : Tree) (p : Parsed) → Front ns or_level ws p → alone p ≡ Some t → Means ns or_level ws t
lone ns ws t None f e = let z : ◌≡◌ {A = ℕ} 0 1 = cc in absurd (omega arith)
lone ns ws t (Some p) f e = last p.0 p.1 f.0 f.1 f.2 e
  where
    last : (c : Tree) (rest front : List Word) → ws ≡ front ++ rest → Means ns or_level front c → ended c rest ≡ Some t → Means ns or_level ws t
    last c [] front is d e =
        let same : c ≡ t = cc in
        subst₂ (Means ns or_level) (sym (is ∙ append-nil front)) same d
    last c (w ∷ rest) front is d e = let z : ◌≡◌ {A = ℕ} 0 1 = cc in absurd (omega arith)

pub exact : ParserExact
exact ns ws t = (
  lone ns ws t (condition ns ws) (sound ns (depth or_level ws) or_level ws),
  λ d.
      let all = append-nil ws in
      let read : condition ns ws ≡ Some (t, []) = subst (λ vs. parse ns (depth or_level ws) or_level vs ≡ Some (t, [])) all (complete d [] (refl, refl) (depth or_level ws) (omega (arith, ap length all))) in
      ap alone read,
)

-- what is promised of a line that has to be a condition, from what was read of it
pub takes : (ns ws : List Word) (n : ℕ) (r : Result Cond ConditionFault) → Formed tree (alone (condition ns ws)) n r → Takes ns ws n r
takes ns ws n (Ok c) h = (exact ns ws (tree c)).0 h
takes ns ws n (Err (fault.Word f)) h = (
  h.1,
  λ t d.
      let both : ◌≡◌ {A = Option Tree} (Some t) None = sym ((exact ns ws t).1 d) ∙ h.0 in
      let z : ◌≡◌ {A = ℕ} 0 1 = cc in
      omega arith,
)
takes ns ws n (Err fault.Memory) h = tt
