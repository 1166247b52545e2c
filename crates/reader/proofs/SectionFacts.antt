-- Sections, line by line.
use Rattle.std.proofs.Common.{◌≡◌, ℕ, suc, ◌+◌, ◌-◌, ◌*◌, ◌<◌, Bool, true, false, ◌&&◌, List, [], ◌∷◌, ◌++◌, length, Some, Option, Result, sym, ap, ◌∙◌, mul_assoc, one-mul, mul-one, arith}
use Rattle.std.proofs.lemmas.Bool.{and_from, le-leb}
use Rattle.std.proofs.lemmas.Map.Keys.{le_from_is_le}
use Rattle.std.proofs.lemmas.Result.{err_from_is_err_and}
use Rattle.std.specs.Result.{IsErrAnd}
use Rattle.std.specs.Ordering.{nat_cmp, is_le}
use Rattle.words.specs.Reading.{Read, got, refused, next_line, line_of, headed}
use Rattle.words.specs.Words.{Word, each, within}
use Rattle.words.specs.declared.text_reader.TextReader.{TextReader}
use Rattle.conditions.specs.Variables.{Var, names, size_at}
use Rattle.conditions.specs.Conditions.{known_tree}
use Rattle.reader.specs.Answers.{Tells}
use Rattle.reader.specs.Faults.{FaultSays}
use Rattle.reader.specs.RuleSets.{Rule}
use Rattle.reader.specs.Sections.{many, section}
use Rattle.reader.specs.VariableLines.{product}
use Rattle.reader.specs.BlockLines.{known_effect, small_effect, fitting_effect, block_line, block_head, block}
use Rattle.reader.specs.CaseWords.{rule}
use Rattle.reader.specs.declared.fault.ReadFault.{ReadFault}
use Rattle.reader.proofs.FaultFacts.{fault_implies}

-- what a `?` returns where a part fails: its fault is one of the whole
pub part_refused : {A B C : Type 0} (f : A → B) (p : Read B) (q : Read C) (r : Result A ReadFault) (z : TextReader) (e : ReadFault) → IsErrAnd r (λ x. x ≡ e) → FaultSays e (λ item at. q ≡ refused item at) → ((item at : ℕ) → q ≡ refused item at → p ≡ refused item at) → Tells f p r z
part_refused f p q r z e is h k =
    let x = err_from_is_err_and r is in
    rw (x.1, x.2) (fault_implies e (λ item at. q ≡ refused item at) (λ item at. p ≡ refused item at) k h)

module _ {A : Type 0} (step : List A → ℕ → List (List ℕ) → Read A) where
  more_left : (k i : ℕ) → i < k → k - i ≡ suc (k - (i + 1))
  more_left k i lt = omega arith

  module _ (k i : ℕ) (xs : List A) (n : ℕ) (ls : List (List ℕ)) (whole : Read (List A)) (going : many step (k - i) xs n ls ≡ whole) (lt : i < k) where
    opened : many step (suc (k - (i + 1))) xs n ls ≡ whole
    opened = ap (λ j. many step j xs n ls) (sym (more_left k i lt)) ∙ going

    pub turn_fails : (item at : ℕ) → step xs n ls ≡ refused item at → whole ≡ refused item at
    turn_fails item at e = sym opened ∙ rw e

    pub turn : (x : A) (ys : List A) (m : ℕ) (more : List (List ℕ)) → step xs n ls ≡ got x m more → ys ≡ xs ++ x ∷ [] → many step (k - (i + 1)) ys m more ≡ whole
    turn x ys m more e is = ap (λ zs. many step (k - (i + 1)) zs m more) is ∙ sym (rw e) ∙ opened

  -- a section whose count passes is what its turns give
  pub section_is : (w : Word) (ok : ℕ → Bool) (n k m : ℕ) (ls more : List (List ℕ)) → line_of (headed w) n ls ≡ got k m more → ok k ≡ true → section w ok step n ls ≡ many step k [] m more
  section_is w ok n k m ls more e t = rw (e, t)

pub product_push : (vs : List Var) (v : Var) → product (vs ++ v ∷ []) ≡ product vs * v.size
product_push [] v = mul-one v.size ∙ sym (one-mul v.size)
product_push (u ∷ vs) v = ap (λ p. u.size * p) (product_push vs v) ∙ sym (mul_assoc u.size (product vs) v.size)

pub line_read : {A : Type 0} (form : List Word → Option A) (n : ℕ) (ls : List (List ℕ)) (ws : List Word) (m : ℕ) (more : List (List ℕ)) (a : A) → next_line n ls ≡ got ws m more → form ws ≡ Some a → line_of form n ls ≡ got a m more
line_read form n ls ws m more a e f = rw (e, f)

-- the tests of a block's line
module _ (vs : List Var) (i n : ℕ) (ls : List (List ℕ)) (r : Rule) (m : ℕ) (more : List (List ℕ)) (h : line_of (rule (names vs)) n ls ≡ got r m more) where
  pub line_unknown : (known_tree (length vs) r.when && each (known_effect (length vs)) r.results) ≡ false → block_line vs i n ls ≡ refused 7 m
  line_unknown e = rw (h, e)

  module _ (k : (known_tree (length vs) r.when && each (known_effect (length vs)) r.results) ≡ true) where
    pub line_large : each (small_effect (size_at vs i)) r.results ≡ false → block_line vs i n ls ≡ refused 8 m
    line_large e = rw (h, k, e)

    pub line_larger : each (small_effect (size_at vs i)) r.results ≡ true → each (fitting_effect vs (size_at vs i)) r.results ≡ false → block_line vs i n ls ≡ refused 9 m
    line_larger s e = rw (h, k, s, e)

    pub line_good : each (small_effect (size_at vs i)) r.results ≡ true → each (fitting_effect vs (size_at vs i)) r.results ≡ true → block_line vs i n ls ≡ got r m more
    line_good s e = rw (h, k, s, e)

pub block_is : (vs : List Var) (i n k m : ℕ) (ls more : List (List ℕ)) → block_head vs i n ls ≡ got k m more → block vs i n ls ≡ many (λ _. block_line vs i) k [] m more
block_is vs i n k m ls more e = rw e

-- what a test of a number of the code says of the number that it stands for
pub test_at : (test : ℕ → Bool) {k l : ℕ} {b : Bool} → k ≡ l → b ≡ test k → test l ≡ b
test_at test e h = ap test (sym e) ∙ sym h

-- a number that a range of the code contains
pub within_range : (low high x : ℕ) {a b : ℕ} → a ≡ low → b ≡ high → (is_le (nat_cmp a x) ≡ true) × (is_le (nat_cmp x b) ≡ true) → within low high x ≡ true
within_range low high x {a} {b} s e h =
    and_from _ _ (le-leb low x (omega (arith, s, le_from_is_le a x h.0))) (le-leb x high (omega (arith, e, le_from_is_le x b h.1)))
