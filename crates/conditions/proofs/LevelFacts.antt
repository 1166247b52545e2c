-- The exits of the functions that read conditions, level by level.
use Rattle.std.proofs.Common.{◌≡◌, ℕ, zero, suc, ◌<◌, ◌≤◌, true, false, List, [], ◌∷◌, length, Some, None, Ok, Err, codes, Option, Result, sym, refl, ap, ◌∙◌, subst, subst₂, arith}
use Rattle.std.specs.Option.{MatchOption, ok_or}
use Rattle.std.proofs.lemmas.Bool.{cond-false, cond_both}
use Rattle.words.specs.Lines.{left}
use Rattle.words.specs.Words.{Word, opens_with, after_first, is_name}
use Rattle.words.specs.declared.line.Line.{Line}
use Rattle.words.specs.declared.fault.WordFault.TheVariants.{Form}
use Rattle.words.proofs.WordFacts.{after_shorter, opens_some}
use Rattle.conditions.specs.Conditions.{Tree, both, either, tree}
use Rattle.conditions.specs.Answers.{Unformed, ParsedAs, Shorter, Reads}
use Rattle.conditions.specs.Parser.{Parsed, joined, comparison, compared, parse, rank, depth}
use Rattle.conditions.specs.Grammar.{Level, or_level, and_level, not_level, base_level, relation, operand}
use Rattle.conditions.specs.declared.condition.Relation.{Relation}
use Rattle.conditions.specs.declared.condition.Operand.{Operand}
use Rattle.conditions.specs.declared.fault.ConditionFault.{ConditionFault}
use Rattle.conditions.specs.declared.fault.ConditionFault.TheVariants as fault
use Rattle.conditions.specs.declared.condition.Cond.{Cond}

-- a fault of a part is one of the whole
pub passes_on : {A B : Type 0} (e : ConditionFault) (p : Option A) (q : Option B) (n : ℕ) → (p ≡ None → q ≡ None) → Unformed p n e → Unformed q n e
passes_on (fault.Word f) p q n k h = (k h.0, h.1)
passes_on fault.Memory p q n k h = tt

-- a fault says the same of the parser that it comes through
fails : (p q : Parsed) (m n : ℕ) (e : ConditionFault) (rest more : List Word) → m ≡ n → (p ≡ None → q ≡ None) → ParsedAs p m (Err e) rest → ParsedAs q n (Err e) more
fails p q m n (fault.Word f) rest more same k s = (k s.0, s.1 ∙ ap Form same)
fails p q m n fault.Memory rest more same k s = tt

-- the line after its first word was taken
pub record Skipped (a b : Line) : Type 0 where
  pub rest : left b ≡ after_first (left a)
  pub same : b.number ≡ a.number

-- of each depth that suffices, one less suffices below
pub deep : (d : ℕ) (P : ℕ → Type 0) → 0 < d → ((n : ℕ) → d ≤ suc n → P (suc n)) → (n : ℕ) → d ≤ n → P n
deep d P pos h zero le = absurd (omega arith)
deep d P pos h (suc n) le = h n le

module _ (w : Word) (make : Tree → Tree → Tree) (left right : List Word → Parsed) (ws : List Word) where
  none_left : left ws ≡ None → joined w make left right ws ≡ None
  none_left e = rw e

  module _ (c : Tree) (rest : List Word) (is : left ws ≡ Some (c, rest)) where
    one_left : opens_with w rest ≡ false → joined w make left right ws ≡ Some (c, rest)
    one_left s = rw (is, s)

    none_right : opens_with w rest ≡ true → right (after_first rest) ≡ None → joined w make left right ws ≡ None
    none_right s e = rw (is, s, e)

    one_right : (d : Tree) (last : List Word) → opens_with w rest ≡ true → right (after_first rest) ≡ Some (d, last) → joined w make left right ws ≡ Some (make c d, last)
    one_right d last s e = rw (is, s, e)

-- a level whose conditions are those of the level below, joined by a word
pub record Joins (names : List Word) (w : Word) (make : Tree → Tree → Tree) (l below : Level) : Type 0 where
  pub ranks : rank l ≡ suc (rank below)
  pub opens : (n : ℕ) (ws : List Word) → parse names (suc n) l ws ≡ joined w make (parse names n below) (parse names n l) ws

pub ands : (names : List Word) → Joins names (codes "and") both and_level not_level
ands names = record { ranks = refl; opens = λ n ws. refl }

pub ors : (names : List Word) → Joins names (codes "or") either or_level and_level
ors names = record { ranks = refl; opens = λ n ws. refl }

module _ {names : List Word} {w : Word} {make : Tree → Tree → Tree} {l below : Level} (j : Joins names w make l below) where
  pub joined_left_fails : (a b : Line) (e : ConditionFault) → Reads names below a (Err e) b → Reads names l a (Err e) b
  joined_left_fails a b e h = record {
    same = h.same;
    shorter = tt;
    says = deep _ (λ n. ParsedAs (parse names n l (left a)) a.number (Err e) (left b)) (omega (arith, j.ranks)) (λ n le. fails _ _ _ _ e (left b) (left b) refl (λ none. j.opens n (left a) ∙ none_left w make (parse names n below) (parse names n l) (left a) none) (h.says n (omega (arith, j.ranks))));
  }

  module _ (a b d : Line) (c : Cond) (h : Reads names below a (Ok c) b) where
    pub joined_left : opens_with w (left b) ≡ false → left d ≡ left b → d.number ≡ b.number → Reads names l a (Ok c) d
    joined_left s rest same = record {
      same = same ∙ h.same;
      shorter = omega (arith, h.shorter, ap length rest);
      says = deep _ (λ n. ParsedAs (parse names n l (left a)) a.number (Ok c) (left d)) (omega (arith, j.ranks)) (λ n le. j.opens n (left a) ∙ one_left w make (parse names n below) (parse names n l) (left a) _ (left b) (h.says n (omega (arith, j.ranks))) s ∙ ap (λ ws. Some (tree c, ws)) (sym rest));
    }

    module _ (z : Line) (s : opens_with w (left b) ≡ true) (k : Skipped b d) where
      after : (r : Result Cond ConditionFault) (n : ℕ) → depth l (left a) ≤ suc n → Reads names l d r z → ParsedAs (parse names n l (after_first (left b))) d.number r (left z)
      after r n le m = subst (λ ws. ParsedAs (parse names n l ws) d.number r (left z)) k.rest (m.says n (omega (arith, j.ranks, h.shorter, after_shorter (left b), ap length k.rest)))

      pub joined_right_fails : (e : ConditionFault) → Reads names l d (Err e) z → Reads names l a (Err e) z
      joined_right_fails e m = record {
        same = m.same ∙ k.same ∙ h.same;
        shorter = tt;
        says = deep _ (λ n. ParsedAs (parse names n l (left a)) a.number (Err e) (left z)) (omega (arith, j.ranks)) (λ n le. fails _ _ _ _ e (left z) (left z) (k.same ∙ h.same) (λ none. j.opens n (left a) ∙ none_right w make (parse names n below) (parse names n l) (left a) _ (left b) (h.says n (omega (arith, j.ranks))) s none) (after (Err e) n le m));
      }

      pub joined_right : (x r : Cond) → Reads names l d (Ok x) z → tree r ≡ make (tree c) (tree x) → Reads names l a (Ok r) z
      joined_right x r m is = record {
        same = m.same ∙ k.same ∙ h.same;
        shorter = omega (arith, h.shorter, m.shorter, after_shorter (left b), ap length k.rest);
        says = deep _ (λ n. ParsedAs (parse names n l (left a)) a.number (Ok r) (left z)) (omega (arith, j.ranks)) (λ n le. j.opens n (left a) ∙ one_right w make (parse names n below) (parse names n l) (left a) _ (left b) (h.says n (omega (arith, j.ranks))) _ (left z) s (after (Ok x) n le m) ∙ ap (λ t. Some (t, left z)) (sym is));
      }

-- fewer than n words are left
abbrev Leaves : ℕ → Parsed → Type 0
Leaves n None = Unit {0}
Leaves n (Some p) = length p.1 < n

compared_leaves : (v n : ℕ) (r : Option Relation) (o : Option Operand) (rest : List Word) → length rest < n → Leaves n (compared v r o rest)
compared_leaves v n None o rest lt = tt
compared_leaves v n (Some r) None rest lt = tt
compared_leaves v n (Some r) (Some o) rest lt = lt

comparison_leaves : (names ws : List Word) → Leaves (length ws) (comparison names ws)
comparison_leaves names [] = tt
comparison_leaves names (a ∷ []) = tt
comparison_leaves names (a ∷ b ∷ []) = tt
comparison_leaves names (a ∷ b ∷ o ∷ rest) =
    cond_both (is_name a) _ _ (Leaves _) (λ _. compared_leaves _ _ (relation b) (operand names o) rest (omega arith)) (λ _. tt)

leaves_shorter : (ws rest : List Word) (c : Cond) → (p : Parsed) → Leaves (length ws) p → p ≡ Some (tree c, rest) → length rest < length ws
leaves_shorter ws rest c p k says = subst (Leaves (length ws)) says k

module _ (names : List Word) (a b z : Line) where
  -- `not` and what stands behind it
  module _ (s : opens_with (codes "not") (left a) ≡ true) (k : Skipped a b) where
    after_not : (r : Result Cond ConditionFault) (n : ℕ) → depth not_level (left a) ≤ suc n → Reads names not_level b r z → ParsedAs (parse names n not_level (after_first (left a))) b.number r (left z)
    after_not r n le m = subst (λ ws. ParsedAs (parse names n not_level ws) b.number r (left z)) k.rest (m.says n (omega (arith, opens_some _ (left a) s, ap length k.rest)))

    pub not_fails : (e : ConditionFault) → Reads names not_level b (Err e) z → Reads names not_level a (Err e) z
    not_fails e h = record {
      same = h.same ∙ k.same;
      shorter = tt;
      says = deep _ (λ n. ParsedAs (parse names n not_level (left a)) a.number (Err e) (left z)) (omega arith) (λ n le. fails _ _ _ _ e (left z) (left z) k.same (λ none. rw (s, none)) (after_not (Err e) n le h));
    }

  pub not_below : (r : Result Cond ConditionFault) → opens_with (codes "not") (left a) ≡ false → left b ≡ left a → b.number ≡ a.number → Reads names base_level b r z → Reads names not_level a r z
  not_below r s rest same h = record {
    same = h.same ∙ same;
    shorter = subst (λ ws. Shorter ws r (left z)) rest h.shorter;
    says = deep _ (λ n. ParsedAs (parse names n not_level (left a)) a.number r (left z)) (omega arith) (λ n le. subst (λ p. ParsedAs p a.number r (left z)) (sym (cond-false _ _ _ s)) (subst₂ (λ ws m. ParsedAs (parse names n base_level ws) m r (left z)) rest same (h.says n (omega (arith, ap length rest)))));
  }

  -- a condition in brackets
  module _ (s : opens_with (codes "(") (left a) ≡ true) (k : Skipped a b) where
    inside : (r : Result Cond ConditionFault) (n : ℕ) → depth base_level (left a) ≤ suc n → Reads names or_level b r z → ParsedAs (parse names n or_level (after_first (left a))) b.number r (left z)
    inside r n le m = subst (λ ws. ParsedAs (parse names n or_level ws) b.number r (left z)) k.rest (m.says n (omega (arith, opens_some _ (left a) s, ap length k.rest)))

    pub inner_fails : (e : ConditionFault) → Reads names or_level b (Err e) z → Reads names base_level a (Err e) z
    inner_fails e h = record {
      same = h.same ∙ k.same;
      shorter = tt;
      says = deep _ (λ n. ParsedAs (parse names n base_level (left a)) a.number (Err e) (left z)) (omega arith) (λ n le. fails _ _ _ _ e (left z) (left z) k.same (λ none. rw (s, none)) (inside (Err e) n le h));
    }

    module _ (c : Cond) (h : Reads names or_level b (Ok c) z) (y : Line) where
      pub inner_open : opens_with (codes ")") (left z) ≡ false → y.number ≡ z.number → Reads names base_level a (Err (fault.Word (Form y.number))) y
      inner_open o same = record {
        same = same ∙ h.same ∙ k.same;
        shorter = tt;
        says = deep _ (λ n. ParsedAs (parse names n base_level (left a)) a.number (Err (fault.Word (Form y.number))) (left y)) (omega arith) (λ n le. (rw (s, inside (Ok c) n le h, o), ap Form (same ∙ h.same ∙ k.same)));
      }

      pub inner_closed : opens_with (codes ")") (left z) ≡ true → Skipped z y → Reads names base_level a (Ok c) y
      inner_closed o m = record {
        same = m.same ∙ h.same ∙ k.same;
        shorter = omega (arith, h.shorter, after_shorter (left a), after_shorter (left z), ap length k.rest, ap length m.rest);
        says = deep _ (λ n. ParsedAs (parse names n base_level (left a)) a.number (Ok c) (left y)) (omega arith) (λ n le. rw (s, inside (Ok c) n le h, o, m.rest));
      }

module _ (names : List Word) (a z : Line) (s : opens_with (codes "(") (left a) ≡ false) where
  module _ (o : opens_with (codes "always") (left a) ≡ false) (same : z.number ≡ a.number) where
    plain : (n : ℕ) → parse names (suc n) base_level (left a) ≡ comparison names (left a)
    plain n = cond-false _ _ _ s ∙ cond-false _ _ _ o

    -- what was compared, or else a fault of form on the line m
    pub base_compares : (r : Option Cond) (m : ℕ) → m ≡ a.number → MatchOption r (comparison names (left a) ≡ None) (λ c. comparison names (left a) ≡ Some (tree c, left z)) → Reads names base_level a (ok_or r (fault.Word (Form m))) z
    base_compares None m is h = record {
      same = same;
      shorter = tt;
      says = deep _ (λ n. ParsedAs (parse names n base_level (left a)) a.number (Err (fault.Word (Form m))) (left z)) (omega arith) (λ n le. (plain n ∙ h, ap Form is));
    }
    base_compares (Some c) m is h = record {
      same = same;
      shorter = leaves_shorter (left a) (left z) c _ (comparison_leaves names (left a)) h;
      says = deep _ (λ n. ParsedAs (parse names n base_level (left a)) a.number (Ok c) (left z)) (omega arith) (λ n le. plain n ∙ h);
    }
