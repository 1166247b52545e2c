-- A text is read exactly if it meets the format.
use Rattle.std.proofs.Common.{◌≡◌, ℕ, zero, suc, ◌+◌, ◌*◌, Bool, true, false, ◌&&◌, eqb, leb, List, [], ◌∷◌, ◌++◌, length, Some, None, codes, Option, sym, refl, ap, ◌∙◌, subst, append_assoc, append-nil, arith}
use Rattle.words.specs.Reading.{Read, got, refused, then, given, formed, line_of, headed, ending}
use Rattle.words.specs.Texts.{is_text, is_line}
use Rattle.words.specs.Words.{Word, words, each, within}
use Rattle.words.specs.Pieces.{pieces}
use Rattle.conditions.specs.Conditions.{Tree, known_tree}
use Rattle.conditions.specs.Grammar.{Means, or_level}
use Rattle.conditions.specs.Variables.{Var, names, declared, size_at, place}
use Rattle.conditions.specs.Parser.{alone, condition}
use Rattle.conditions.proofs.Sound.{exact}
use Rattle.reader.specs.Cases.{RuleMeans}
use Rattle.reader.specs.RuleSets.{Rule, RuleSet}
use Rattle.reader.specs.Sections.{many, section}
use Rattle.reader.specs.VariableLines.{declaration, rising, product, variable, section_variables}
use Rattle.reader.specs.BlockLines.{title, known_effect, small_effect, fitting_effect, block_line, block_head, block, section_blocks}
use Rattle.reader.specs.CaseWords.{rule}
use Rattle.reader.specs.BreakLines.{break_line, section_breaks}
use Rattle.reader.specs.WholeTexts.{sections, read_text}
use Rattle.reader.specs.Says.{LineIs, LineOf, Each, none, more, Section, VariableFits, VariableLine, RuleFits, BlockLine, Block, BreakLine, Says, ReadsExactly}
use Rattle.reader.proofs.CaseFacts.{rule_sound, rule_complete}
use mathlib.Core.Bool as bool

clash : {A B : Type 0} (x : A) (i m k : ℕ) (ls : List (List ℕ)) → ◌≡◌ {A = Read A} (refused i m) (got x k ls) → B
clash x i m k ls e = let z : ◌≡◌ {A = ℕ} 0 1 = cc in absurd (omega arith)

-- f reads a of exactly the lines that P says a of
pub record Exactly {A : Type 0} (f : ℕ → List (List ℕ) → Read A) (P : List (List ℕ) → A → Type 0) : Type 0 where
  pub sound : (n : ℕ) (ls : List (List ℕ)) (a : A) (m : ℕ) (rest : List (List ℕ)) → f n ls ≡ got a m rest → (front : List (List ℕ)) × (ls ≡ front ++ rest) × P front a
  pub complete : (n : ℕ) (front rest : List (List ℕ)) (a : A) → P front a → (m : ℕ) × (f n (front ++ rest) ≡ got a m rest)

-- inversions
then_got : {A B : Type 0} (p : Read A) (g : A → ℕ → List (List ℕ) → Read B) (b : B) (m : ℕ) (rest : List (List ℕ)) → then p g ≡ got b m rest → (a : A) × (k : ℕ) × (ls : List (List ℕ)) × (p ≡ got a k ls) × (g a k ls ≡ got b m rest)
then_got (got a k ls) g b m rest e = (a, k, ls, refl, e)
then_got (refused i k) g b m rest e = clash b i k m rest e

given_got : {B : Type 0} (t : Bool) (i n : ℕ) (x : Read B) (b : B) (m : ℕ) (rest : List (List ℕ)) → given t i n x ≡ got b m rest → (t ≡ true) × (x ≡ got b m rest)
given_got true i n x b m rest e = (refl, e)
given_got false i n x b m rest e = clash b i n m rest e

formed_got : {A : Type 0} (o : Option A) (k : ℕ) (ls : List (List ℕ)) (a : A) (m : ℕ) (rest : List (List ℕ)) → formed o k (λ x. got x k ls) ≡ got a m rest → (o ≡ Some a) × (ls ≡ rest)
formed_got None k ls a m rest e = clash a 4 k m rest e
formed_got (Some x) k ls a m rest e =
    let same : x ≡ a = cc in
    let left : ls ≡ rest = cc in
    (ap Some same, left)

line_sound : {A : Type 0} (form : List Word → Option A) (n : ℕ) (ls : List (List ℕ)) (a : A) (m : ℕ) (rest : List (List ℕ)) → line_of form n ls ≡ got a m rest → (front : List (List ℕ)) × (ls ≡ front ++ rest) × LineOf form front a
line_sound form n [] a m rest e = clash a 2 (n + 1) m rest e
line_sound form n (l ∷ ls) a m rest e = go (is_line l) refl e
  where
    go : (t : Bool) → is_line l ≡ t → then (given t 3 (n + 1) (got (words l) (n + 1) ls)) (λ ws k more. formed (form ws) k (λ x. got x k more)) ≡ got a m rest → (front : List (List ℕ)) × (l ∷ ls ≡ front ++ rest) × LineOf form front a
    go true is h =
        let p = formed_got (form (words l)) (n + 1) ls a m rest h in
        (l ∷ [], ap (λ x. l ∷ x) p.1, (is, p.0))
    go false is h = clash a 3 (n + 1) m rest h

line_complete : {A : Type 0} (form : List Word → Option A) (n : ℕ) (front rest : List (List ℕ)) (a : A) → LineOf form front a → (m : ℕ) × (line_of form n (front ++ rest) ≡ got a m rest)
line_complete form n [] rest a h = absurd h
line_complete form n (l ∷ []) rest a h = (n + 1, ap (λ t. then (given t 3 (n + 1) (got (words l) (n + 1) rest)) (λ ws k more. formed (form ws) k (λ x. got x k more))) h.0 ∙ ap (λ o. formed o (n + 1) (λ x. got x (n + 1) rest)) h.1)
line_complete form n (l ∷ k ∷ ls) rest a h = absurd h

pub line_exactly : {A : Type 0} (form : List Word → Option A) → Exactly (line_of form) (LineOf form)
line_exactly form = record { sound = line_sound form; complete = line_complete form }

-- tests behind what is read
module _ {A : Type 0} (f : ℕ → List (List ℕ) → Read A) (P : List (List ℕ) → A → Type 0) (g : A → ℕ → List (List ℕ) → Read A) (Q : A → Type 0) where
  pub tests_exactly : Exactly f P → ((a : A) (k : ℕ) (ls : List (List ℕ)) (b : A) (m : ℕ) (rest : List (List ℕ)) → g a k ls ≡ got b m rest → (got a k ls ≡ got b m rest) × Q a) → ((a : A) (k : ℕ) (ls : List (List ℕ)) → Q a → g a k ls ≡ got a k ls) → Exactly (λ n ls. then (f n ls) g) (λ ls a. P ls a × Q a)
  tests_exactly ex gs gc = record {
    sound = λ n ls a m rest e.
        let t = then_got (f n ls) g a m rest e in
        let s = gs t.0 t.1 t.2 a m rest t.4 in
        let same : t.0 ≡ a = cc s.0 in
        let left : t.2 ≡ rest = cc s.0 in
        let p = ex.sound n ls t.0 t.1 t.2 t.3 in
        (p.0, p.1 ∙ ap (λ x. p.0 ++ x) left, (subst (P p.0) same p.2, subst Q same s.1));
    complete = λ n front rest a h.
        let c = ex.complete n front rest a h.0 in
        (c.0, ap (λ p. then p g) c.1 ∙ gc a c.0 rest h.1);
  }

given_true : {B : Type 0} (t : Bool) (i n : ℕ) (x : Read B) → t ≡ true → given t i n x ≡ x
given_true t i n x e = ap (λ b. given b i n x) e

pub variable_exactly : (vs : List Var) → Exactly (variable vs) (VariableLine vs)
variable_exactly vs =
    tests_exactly (line_of declaration) (LineOf declaration) _ (VariableFits vs) (line_exactly declaration)
    (λ v k ls b m rest e.
    let p = given_got (within 2 16 v.size) 5 k _ b m rest e in
    let q = given_got (bool.not (declared (names vs) v.name)) 6 k _ b m rest p.1 in
    let r = given_got (rising 0 v.size v.starts) 8 k _ b m rest q.1 in
    let s = given_got (leb (product vs * v.size) 4096) 10 k _ b m rest r.1 in
    (s.1, record { sized = p.0; free = q.0; starting = r.0; states = s.0 }))
    (λ v k ls q.
    given_true (within 2 16 v.size) 5 k _ q.sized ∙ given_true (bool.not (declared (names vs) v.name)) 6 k _ q.free ∙ given_true (rising 0 v.size v.starts) 8 k _ q.starting ∙ given_true (leb (product vs * v.size) 4096) 10 k _ q.states)

exactly_like : {A : Type 0} (f : ℕ → List (List ℕ) → Read A) (P Q : List (List ℕ) → A → Type 0) → Exactly f P → ((ls : List (List ℕ)) (a : A) → P ls a → Q ls a) → ((ls : List (List ℕ)) (a : A) → Q ls a → P ls a) → Exactly f Q
exactly_like f P Q ex to from = record {
  sound = λ n ls a m rest e.
      let p = ex.sound n ls a m rest e in
      (p.0, p.1, to p.0 a p.2);
  complete = λ n front rest a h. ex.complete n front rest a (from front a h);
}

-- what a form says of words, a relation says
line_like : {A : Type 0} (R S : List Word → A → Type 0) → ((ws : List Word) (a : A) → R ws a → S ws a) → (ls : List (List ℕ)) (a : A) → LineIs R ls a → LineIs S ls a
line_like R S k [] a h = h
line_like R S k (l ∷ []) a h = (h.0, k (words l) a h.1)
line_like R S k (l ∷ m ∷ ls) a h = h

pub block_line_exactly : (vs : List Var) (i : ℕ) → Exactly (block_line vs i) (BlockLine vs i)
block_line_exactly vs i =
    exactly_like (block_line vs i) (λ ls r. LineOf (rule (names vs)) ls r × RuleFits vs i r) (BlockLine vs i)
    (tests_exactly (line_of (rule (names vs))) (LineOf (rule (names vs))) _ (RuleFits vs i) (line_exactly (rule (names vs)))
    (λ v k ls b m rest e.
    let p = given_got (known_tree (length vs) v.when && each (known_effect (length vs)) v.results) 7 k _ b m rest e in
    let q = given_got (each (small_effect (size_at vs i)) v.results) 8 k _ b m rest p.1 in
    let r = given_got (each (fitting_effect vs (size_at vs i)) v.results) 9 k _ b m rest q.1 in
    (r.1, record { known = p.0; small = q.0; fitting = r.0 }))
    (λ v k ls q.
    given_true (known_tree (length vs) v.when && each (known_effect (length vs)) v.results) 7 k _ q.known ∙ given_true (each (small_effect (size_at vs i)) v.results) 8 k _ q.small ∙ given_true (each (fitting_effect vs (size_at vs i)) v.results) 9 k _ q.fitting))
    (λ ls r h. (line_like _ (RuleMeans (names vs)) (rule_sound (names vs)) ls r h.0, h.1))
    (λ ls r h. (line_like _ (λ ws x. rule (names vs) ws ≡ Some x) (rule_complete (names vs)) ls r h.0, h.1))

pub break_line_exactly : (vs : List Var) → Exactly (break_line vs) (BreakLine vs)
break_line_exactly vs =
    exactly_like (break_line vs) (λ ls c. LineOf (λ ws. alone (condition (names vs) ws)) ls c × (known_tree (length vs) c ≡ true)) (BreakLine vs)
    (tests_exactly (line_of (λ ws. alone (condition (names vs) ws))) (LineOf (λ ws. alone (condition (names vs) ws))) _ _ (line_exactly (λ ws. alone (condition (names vs) ws))) (λ c k ls b m rest e. let p = given_got (known_tree (length vs) c) 7 k _ b m rest e in (p.1, p.0)) (λ c k ls q. given_true (known_tree (length vs) c) 7 k _ q))
    (λ ls c h. (line_like _ (Means (names vs) or_level) (λ ws x. (exact (names vs) ws x).0) ls c h.0, h.1))
    (λ ls c h. (line_like _ (λ ws x. alone (condition (names vs) ws) ≡ Some x) (λ ws x. (exact (names vs) ws x).1) ls c h.0, h.1))

module _ {A : Type 0} (step : List A → ℕ → List (List ℕ) → Read A) (P : List A → List (List ℕ) → A → Type 0) (ex : (xs : List A) → Exactly (step xs) (P xs)) where
  many_sound : (k : ℕ) (xs : List A) (n : ℕ) (ls : List (List ℕ)) (ys : List A) (m : ℕ) (rest : List (List ℕ)) → many step k xs n ls ≡ got ys m rest → (new : List A) × (front : List (List ℕ)) × (ls ≡ front ++ rest) × (ys ≡ xs ++ new) × (length new ≡ k) × Each P xs front new
  many_sound zero xs n ls ys m rest e =
      let a : xs ≡ ys = cc in
      let b : ls ≡ rest = cc in
      ([], [], b, sym a ∙ sym (append-nil xs), refl, none)
  many_sound (suc k) xs n ls ys m rest e =
      let t = then_got (step xs n ls) (λ x j tail. many step k (xs ++ x ∷ []) j tail) ys m rest e in
      let p = (ex xs).sound n ls t.0 t.1 t.2 t.3 in
      let q = many_sound k (xs ++ t.0 ∷ []) t.1 t.2 ys m rest t.4 in
      (t.0 ∷ q.0, p.0 ++ q.1, p.1 ∙ ap (λ x. p.0 ++ x) q.2 ∙ sym (append_assoc p.0 q.1 rest), q.3 ∙ append_assoc xs (t.0 ∷ []) q.0, ap suc q.4, more p.2 q.5)

  many_complete : {xs new : List A} {front : List (List ℕ)} → Each P xs front new → (n : ℕ) (rest : List (List ℕ)) → (m : ℕ) × (many step (length new) xs n (front ++ rest) ≡ got (xs ++ new) m rest)
  many_complete {xs} none n rest = (n, ap (λ x. got x n rest) (sym (append-nil xs)))
  many_complete {xs} (more {ys = ys} {x = x} {ls = ls} {ks = ks} p e) n rest =
      let c = (ex xs).complete n ls (ks ++ rest) x p in
      let d = many_complete e c.0 rest in
      (d.0, ap (λ l. many step (suc (length ys)) xs n l) (append_assoc ls ks rest) ∙ ap (λ r. then r (λ y j tail. many step (length ys) (xs ++ y ∷ []) j tail)) c.1 ∙ d.1 ∙ ap (λ z. got z d.0 rest) (append_assoc xs (x ∷ []) ys))

  pub section_exactly : (w : Word) (ok : ℕ → Bool) → Exactly (section w ok step) (Section w ok P)
  section_exactly w ok = record {
    sound = λ n ls a m rest e.
        let t = then_got (line_of (headed w) n ls) (λ k j tail. given (ok k) 5 j (many step k [] j tail)) a m rest e in
        let h = line_sound (headed w) n ls t.0 t.1 t.2 t.3 in
        let g = given_got (ok t.0) 5 t.1 _ a m rest t.4 in
        let q = many_sound t.0 [] t.1 t.2 a m rest g.1 in
        let count : t.0 ≡ length a = sym q.4 ∙ ap length (sym q.3) in
        (h.0 ++ q.1, h.1 ∙ ap (λ x. h.0 ++ x) q.2 ∙ sym (append_assoc h.0 q.1 rest), record { head = h.0; body = q.1; lines = refl; heading = subst (LineOf (headed w) h.0) count h.2; limits = subst (λ k. ok k ≡ true) count g.0; parts = subst (Each P [] q.1) (sym q.3) q.5 });
    complete = λ n front rest a s.
        let c = line_complete (headed w) n s.head (s.body ++ rest) (length a) s.heading in
        let d = many_complete s.parts c.0 rest in
        (d.0, ap (section w ok step n) (ap (λ x. x ++ rest) s.lines ∙ append_assoc s.head s.body rest) ∙ ap (λ p. then p (λ k j tail. given (ok k) 5 j (many step k [] j tail))) c.1 ∙ given_true (ok (length a)) 5 c.0 _ s.limits ∙ d.1);
  }

module _ (vs : List Var) (i : ℕ) where
  head_tests : Word × ℕ → ℕ → List (List ℕ) → Read ℕ
  head_tests t m tail = given (leb t.1 8) 5 m (given (eqb (place (names vs) t.0) i) 7 m (got t.1 m tail))

  block_lines : ℕ → ℕ → List (List ℕ) → Read (List Rule)
  block_lines k m tail = many (λ _. block_line vs i) k [] m tail

  pub block_exactly : Exactly (block vs i) (Block vs i)
  unfolding head_tests block_lines
  block_exactly = record {
    sound = λ n ls a m rest e.
        let t = then_got (block_head vs i n ls) block_lines a m rest e in
        let u = then_got (line_of title n ls) head_tests t.0 t.1 t.2 t.3 in
        let p = given_got (leb u.0.1 8) 5 u.1 _ t.0 t.1 t.2 u.4 in
        let q = given_got (eqb (place (names vs) u.0.0) i) 7 u.1 _ t.0 t.1 t.2 p.1 in
        let same : u.0.1 ≡ t.0 = cc q.1 in
        let left : u.2 ≡ t.2 = cc q.1 in
        let h = line_sound title n ls u.0 u.1 u.2 u.3 in
        let w = many_sound (λ _. block_line vs i) (λ _. BlockLine vs i) (λ _. block_line_exactly vs i) t.0 [] t.1 t.2 a m rest t.4 in
        let count : u.0.1 ≡ length a = same ∙ sym w.4 ∙ ap length (sym w.3) in
        (h.0 ++ w.1, h.1 ∙ ap (λ x. h.0 ++ x) (left ∙ w.2) ∙ sym (append_assoc h.0 w.1 rest), record { name = u.0.0; head = h.0; body = w.1; lines = refl; heading = subst (λ k. LineOf title h.0 (u.0.0, k)) count h.2; limits = subst (λ k. leb k 8 ≡ true) count p.0; own = q.0; rules = subst (Each (λ _. BlockLine vs i) [] w.1) (sym w.3) w.5 });
    complete = λ n front rest a s.
        let c = line_complete title n s.head (s.body ++ rest) (s.name, length a) s.heading in
        let d = many_complete (λ _. block_line vs i) (λ _. BlockLine vs i) (λ _. block_line_exactly vs i) s.rules c.0 rest in
        let head : block_head vs i n (s.head ++ (s.body ++ rest)) ≡ got (length a) c.0 (s.body ++ rest) = ap (λ p. then p head_tests) c.1 ∙ given_true (leb (length a) 8) 5 c.0 _ s.limits ∙ given_true (eqb (place (names vs) s.name) i) 7 c.0 _ s.own in
        (d.0, ap (block vs i n) (ap (λ x. x ++ rest) s.lines ∙ append_assoc s.head s.body rest) ∙ ap (λ p. then p block_lines) head ∙ d.1);
  }

ending_got : (n : ℕ) (ls : List (List ℕ)) (u : Unit {0}) (m : ℕ) (rest : List (List ℕ)) → ending n ls ≡ got u m rest → ls ≡ []
ending_got n [] u m rest e = refl
ending_got n (l ∷ ls) u m rest e =
    let p = given_got (is_line l) 3 (n + 1) _ u m rest e in
    clash u 11 (n + 1) m rest p.1

variables_part : Exactly section_variables (Section (codes "variables") (within 1 12) VariableLine)
variables_part = section_exactly variable VariableLine variable_exactly (codes "variables") (within 1 12)

blocks_part : (vs : List Var) → Exactly (section_blocks vs) (Section (codes "blocks") (λ k. eqb k (length vs)) (λ bs. Block vs (length bs)))
blocks_part vs = section_exactly (λ bs. block vs (length bs)) (λ bs. Block vs (length bs)) (λ bs. block_exactly vs (length bs)) (codes "blocks") (λ k. eqb k (length vs))

breaks_part : (vs : List Var) → Exactly (section_breaks vs) (Section (codes "breaks") (λ k. leb k 8) (λ _. BreakLine vs))
breaks_part vs = section_exactly (λ _. break_line vs) (λ _. BreakLine vs) (λ _. break_line_exactly vs) (codes "breaks") (λ k. leb k 8)

-- what follows each section
abbrev with_end : List Var → List (List Rule) → List Tree → Unit {0} → ℕ → List (List ℕ) → Read RuleSet
with_end vs bs cs _ d tail = got (record { variables = vs; blocks = bs; breaks = cs }) d tail

abbrev with_breaks : List Var → List (List Rule) → List Tree → ℕ → List (List ℕ) → Read RuleSet
with_breaks vs bs cs c tail = then (ending c tail) (with_end vs bs cs)

abbrev with_blocks : List Var → List (List Rule) → ℕ → List (List ℕ) → Read RuleSet
with_blocks vs bs b tail = then (section_breaks vs b tail) (with_breaks vs bs)

abbrev with_variables : List Var → ℕ → List (List ℕ) → Read RuleSet
with_variables vs a tail = then (section_blocks vs a tail) (with_blocks vs)

read_sound : (t : List ℕ) (r : RuleSet) (n : ℕ) (ls : List (List ℕ)) → read_text t ≡ got r n ls → Says t r
read_sound t r n ls e =
    let g = given_got (is_text t) 1 0 (sections 0 (pieces 10 t)) r n ls e in
    let a = then_got (section_variables 0 (pieces 10 t)) with_variables r n ls g.1 in
    let b = then_got (section_blocks a.0 a.1 a.2) (with_blocks a.0) r n ls a.4 in
    let c = then_got (section_breaks a.0 b.1 b.2) (with_breaks a.0 b.0) r n ls b.4 in
    let d = then_got (ending c.1 c.2) (with_end a.0 b.0 c.0) r n ls c.4 in
    let none_left = ending_got c.1 c.2 d.0 d.1 d.2 d.3 in
    let x = variables_part.sound 0 (pieces 10 t) a.0 a.1 a.2 a.3 in
    let y = (blocks_part a.0).sound a.1 a.2 b.0 b.1 b.2 b.3 in
    let z = (breaks_part a.0).sound b.1 b.2 c.0 c.1 c.2 c.3 in
    let said : RuleSet = record { variables = a.0; blocks = b.0; breaks = c.0 } in
    let same : said ≡ r = cc d.4 in
    let lines = x.1 ∙ ap (λ w. x.0 ++ w) (y.1 ∙ ap (λ w. y.0 ++ w) (z.1 ∙ ap (λ w. z.0 ++ w) none_left ∙ append-nil z.0)) in
    let says : Says t said = record { text = g.0; first = x.0; second = y.0; third = z.0; lines = lines; variables = x.2; blocks = y.2; breaks = z.2 } in
    subst (Says t) same says

read_complete : (t : List ℕ) (r : RuleSet) → Says t r → (n : ℕ) × (ls : List (List ℕ)) × (read_text t ≡ got r n ls)
read_complete t r h =
    let vs = r.variables in
    let x = variables_part.complete 0 h.first (h.second ++ h.third) vs h.variables in
    let y = (blocks_part vs).complete x.0 h.second h.third r.blocks h.blocks in
    let z = (breaks_part vs).complete y.0 h.third [] r.breaks h.breaks in
    let last = ap (section_breaks vs y.0) (sym (append-nil h.third)) ∙ z.1 in
    (z.0, [], given_true (is_text t) 1 0 (sections 0 (pieces 10 t)) h.text ∙ ap (sections 0) h.lines ∙ ap (λ p. then p with_variables) x.1 ∙ ap (λ p. then p (with_blocks vs)) y.1 ∙ ap (λ p. then p (with_breaks vs r.blocks)) last)

pub reads_exactly : ReadsExactly
reads_exactly t r = (λ h. read_sound t r h.0 h.1 h.2, read_complete t r)
