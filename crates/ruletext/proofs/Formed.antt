-- What a text says is well formed.
use Rattle.std.proofs.Common.{◌≡◌, ℕ, ◌+◌, ◌*◌, ◌≤◌, Bool, true, cond, eqb, leb, List, [], ◌∷◌, map, length, codes, sym, refl, ap, ◌∙◌, inl, inr, mul-one, mul-add, arith, length-append}
use lib.ListN.{length-map}
use Rattle.std.specs.List.{flat_map}
use Rattle.std.proofs.lemmas.List.{length_push}
use Rattle.std.proofs.lemmas.Bool.{and_parts, and_from, leb-true, le-leb, eqb-true, cases_Bool}
use Rattle.words.specs.Pieces.{glued, pieces}
use Rattle.words.specs.Texts.{is_line}
use Rattle.words.specs.Words.{Word, words, each}
use Rattle.numbering.specs.Limits.{small_product}
use Rattle.conditions.specs.Conditions.{Tree, known_tree}
use Rattle.conditions.specs.Grammar.{Means, comparing, constant, bracket, plain, negated, one_and, more_and, one_or, more_or, Level}
use Rattle.conditions.specs.Variables.{Var}
use Rattle.reader.specs.RuleSets.{Rule, RuleSet}
use Rattle.reader.specs.Says.{Each, none, more, VariableLine, BlockLine, Block, BreakLine, Says}
use Rattle.reader.specs.VariableLines.{product}
use Rattle.reader.proofs.SectionFacts.{product_push}
use Rattle.steps.specs.Atoms.{atoms_in, line_atoms, block_atoms, atoms_of}
use Rattle.ruletext.specs.Forms.{sound_variable, sound_line, sound_blocks, well_formed}
use Rattle.steps.specs.Meaning.{size_of}

-- ── What holds of each part ──

module _ {A : Type 0} (P : List A → List (List ℕ) → A → Type 0) where
  -- a test that each part passes
  each_part : (f : A → Bool) → ((xs : List A) (ls : List (List ℕ)) (y : A) → P xs ls y → f y ≡ true) → {xs ys : List A} {ls : List (List ℕ)} → Each P xs ls ys → each f ys ≡ true
  each_part f one none = refl
  each_part f one (more {xs = xs} {x = x} {ls = ls} p rest) = and_from _ _ (one xs ls x p) (each_part f one rest)

  -- parts that each give at most m
  joined_parts : {B : Type 0} (f : A → List B) (m : ℕ) → ((xs : List A) (ls : List (List ℕ)) (y : A) → P xs ls y → length (f y) ≤ m) → {xs ys : List A} {ls : List (List ℕ)} → Each P xs ls ys → length (flat_map f ys) ≤ m * length ys
  joined_parts f m one none = omega arith
  joined_parts f m one (more {xs = xs} {ys = ys} {x = x} {ls = ls} p rest) =
      omega (arith, length-append (f x) (flat_map f ys), one xs ls x p, joined_parts f m one rest, mul-add m 1 (length ys), mul-one m)

-- ── Variables ──

sized_part : {vs ws : List Var} {ls : List (List ℕ)} → Each VariableLine vs ls ws → small_product (product vs) (map size_of ws) ≡ true
sized_part none = refl
sized_part (more {xs = vs} {ys = ws} {x = v} p rest) =
    let range = and_parts (leb 2 v.size) (leb v.size 16) p.1.sized in
    and_from _ _ range.0 (and_from _ _ range.1 (and_from _ _ p.1.states (sym (ap (λ k. small_product k (map size_of ws)) (product_push vs v)) ∙ sized_part rest)))

-- ── Blocks ──

sound_part : (vs : List Var) (i : ℕ) (xs : List Rule) (ls : List (List ℕ)) (l : Rule) → BlockLine vs i ls l → sound_line vs i l ≡ true
sound_part vs i xs ls l p = and_from _ _ p.1.known (and_from _ _ p.1.small p.1.fitting)

sound_parts : (vs : List Var) {bs cs : List (List Rule)} {ls : List (List ℕ)} → Each (λ before. Block vs (length before)) bs ls cs → sound_blocks vs (length bs) cs ≡ true
sound_parts vs none = refl
sound_parts vs (more {xs = bs} {ys = cs} {x = b} p rest) =
    and_from _ _ (each_part (λ _. BlockLine vs (length bs)) (sound_line vs (length bs)) (sound_part vs (length bs)) p.rules) (sym (ap (λ k. sound_blocks vs k cs) (length_push bs b)) ∙ sound_parts vs rest)

-- ── How many comparisons a text can have ──

few_glued : (b : ℕ) (ps : List (List ℕ)) → length (glued b ps) ≤ 1 + length ps
few_glued b [] = omega arith
few_glued b (w ∷ ws) = omega arith

few_pieces : (e : ℕ) (bs : List ℕ) → length (pieces e bs) ≤ length bs
few_pieces e [] = omega arith
few_pieces e (b ∷ bs) =
    elim (cases_Bool (eqb b e)) [ inl t ↦ omega (arith, ap (λ c. length (cond c ([] ∷ pieces e bs) (glued b (pieces e bs)))) t, few_pieces e bs) | inr f ↦ omega (arith, ap (λ c. length (cond c ([] ∷ pieces e bs) (glued b (pieces e bs)))) f, few_glued b (pieces e bs), few_pieces e bs) ]

few_atoms : {ns ws : List Word} {l : Level} {t : Tree} → Means ns l ws t → length (atoms_in t) ≤ length ws
few_atoms (comparing n r o) = omega arith
few_atoms constant = omega arith
few_atoms (bracket {ws = ws} d) = omega (arith, few_atoms d, length-append ws (codes ")" ∷ []))
few_atoms (plain d) = few_atoms d
few_atoms (negated d) = omega (arith, few_atoms d)
few_atoms (one_and d) = few_atoms d
few_atoms (more_and {us = us} {ws = ws} {s = s} {t = t} d e) =
    omega (arith, few_atoms d, few_atoms e, length-append us (codes "and" ∷ ws), length-append (atoms_in s) (atoms_in t))
few_atoms (one_or d) = few_atoms d
few_atoms (more_or {us = us} {ws = ws} {s = s} {t = t} d e) =
    omega (arith, few_atoms d, few_atoms e, length-append us (codes "or" ∷ ws), length-append (atoms_in s) (atoms_in t))

-- a line has at most 120 words
few_words : (l : List ℕ) → is_line l ≡ true → length (words l) ≤ 120
few_words l h = omega (arith, few_pieces 32 l, leb-true (length l) 120 (and_parts _ _ h).0)

few_in_line : (vs : List Var) (i : ℕ) (xs : List Rule) (ls : List (List ℕ)) (l : Rule) → BlockLine vs i ls l → length (line_atoms l) ≤ 120
few_in_line vs i xs [] l p = absurd p.0
few_in_line vs i xs (k ∷ []) l p =
    let m = p.0.1 in
    omega (arith, few_atoms m.when, ap length m.parted, length-append m.front (codes ":" ∷ m.back), few_words k p.0.0)
few_in_line vs i xs (k ∷ j ∷ ls) l p = absurd p.0

few_in_break : (vs : List Var) (xs : List Tree) (ls : List (List ℕ)) (c : Tree) → BreakLine vs ls c → length (atoms_in c) ≤ 120
few_in_break vs xs [] c p = absurd p.0
few_in_break vs xs (k ∷ []) c p = omega (arith, few_atoms p.0.1, few_words k p.0.0)
few_in_break vs xs (k ∷ j ∷ ls) c p = absurd p.0

few_in_block : (vs : List Var) (bs : List (List Rule)) (ls : List (List ℕ)) (b : List Rule) → Block vs (length bs) ls b → length (block_atoms b) ≤ 960
few_in_block vs bs ls b p =
    omega (arith, joined_parts (λ _. BlockLine vs (length bs)) line_atoms 120 (few_in_line vs (length bs)) p.rules, leb-true (length b) 8 p.limits)

-- ── The whole ──

pub says_formed : (t : List ℕ) (r : RuleSet) → Says t r → well_formed r ≡ true
says_formed t r h =
    let vs = r.variables in
    let range = and_parts (leb 1 (length vs)) (leb (length vs) 12) h.variables.limits in
    let count = length-map vs size_of in
    let blocks = eqb-true (length r.blocks) (length vs) h.blocks.limits in
    let in_blocks = joined_parts (λ bs. Block vs (length bs)) block_atoms 960 (few_in_block vs) h.blocks.parts in
    let in_breaks = joined_parts (λ _. BreakLine vs) atoms_in 120 (few_in_break vs) h.breaks.parts in
    let few : length (atoms_of r) ≤ 65535 = omega (arith, length-append (flat_map block_atoms r.blocks) (flat_map atoms_in r.breaks), in_blocks, in_breaks, blocks, leb-true (length vs) 12 range.1, leb-true (length r.breaks) 8 h.breaks.limits) in
    and_from _ _ (and_from _ _ (ap (leb 1) count ∙ range.0) (and_from _ _ (ap (λ k. leb k 12) count ∙ range.1) (sized_part h.variables.parts))) (and_from _ _ (each_part VariableLine sound_variable (λ xs ls v p. p.1.starting) h.variables.parts) (and_from _ _ h.blocks.limits (and_from _ _ (sound_parts vs h.blocks.parts) (and_from _ _ (each_part (λ _. BreakLine vs) (known_tree (length vs)) (λ xs ls c p. p.1) h.breaks.parts) (le-leb (length (atoms_of r)) 65535 few)))))
