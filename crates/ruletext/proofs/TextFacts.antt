-- What a well-formed rule set means is finite, and fits its columns.
use Rattle.std.proofs.Common.{◌≡◌, ℕ, ◌<◌, true, ◌&&◌, ◌||◌, eqb, ltb, List, length, get_or, sym, refl, ◌∙◌, inl, inr, arith}
use lib.ListN.{length-map}
use Rattle.std.proofs.lemmas.List.{get_or_past}
use Rattle.std.proofs.lemmas.Bool.{and_parts, and_from, or_left, or_right, ltb-true, lt-ltb, eqb-true, eq-eqb, cases_lt, cases_Bool}
use Rattle.rules.specs.Rules.{Finite}
use Rattle.columns.specs.Columns.{Columned, product, values, value}
use Rattle.columns.proofs.Digits.{length_values, product_positive}
use Rattle.numbering.specs.Limits.{sound_sizes}
use Rattle.numbering.proofs.SizeFacts.{sound_some, sound_few, sound_ranged, sound_most, ranged_positive, ranged_at}
use Rattle.conditions.specs.declared.condition.Operand.{Operand}
use Rattle.conditions.specs.declared.condition.Operand.TheVariants.{Variable, Number}
use Rattle.reader.specs.RuleSets.{RuleSet}
use Rattle.conditions.specs.Conditions.{related, atom_truth, atom_reads, operand_reads}
use Rattle.steps.specs.Atoms.{atoms_of, no_atom, text_columns}
use Rattle.ruletext.specs.Forms.{well_formed}
use Rattle.steps.specs.Meaning.{sizes, size_of, is_state, values_at, text_rules}
use Rattle.conditions.specs.declared.condition.Atom.{Atom}

module _ (r : RuleSet) (h : well_formed r ≡ true) where
  pub formed_sizes : sound_sizes (sizes r) ≡ true
  formed_sizes = (and_parts (sound_sizes (sizes r)) _ h).0

  pub formed_blocks : length r.blocks ≡ length (sizes r)
  formed_blocks =
      let rest = (and_parts _ _ (and_parts (sound_sizes (sizes r)) _ h).1).1 in
      eqb-true (length r.blocks) (length r.variables) (and_parts _ _ rest).0 ∙ sym (length-map r.variables size_of)

  pub finite : Finite (text_rules r)
  finite = record {
    some = product_positive (sizes r) (ranged_positive (sizes r) (sound_ranged (sizes r) formed_sizes));
    most = sound_most (sizes r) formed_sizes;
    start_in = λ s t. ltb-true s (product (sizes r)) (and_parts _ _ t).0;
    break_in = λ s t. ltb-true s (product (sizes r)) (and_parts _ _ t).0;
    step_from = λ s t u. ltb-true s (product (sizes r)) (and_parts _ _ u).0;
    step_to = λ s t u. ltb-true t (product (sizes r)) (and_parts _ _ (and_parts (is_state r s) _ u).1).0;
  }

-- ── The law: an atom depends on what it reads ──

agree_at : (ds : List ℕ) (s t k : ℕ) → (k < length ds → value ds s k ≡ value ds t k) → value ds s k ≡ value ds t k
agree_at ds s t k h =
    elim (cases_lt k (length ds)) [ inl lt ↦ h lt | inr le ↦ get_or_past (values ds s) k 0 (omega (arith, length_values ds s)) ∙ sym (get_or_past (values ds t) k 0 (omega (arith, length_values ds t))) ]

module _ (ds : List ℕ) (s t : ℕ) where
  compares : (v : ℕ) (r : _) (o : Operand) → ((k : ℕ) → (eqb v k || operand_reads o k) ≡ true → k < length ds → value ds s k ≡ value ds t k) → atom_truth (values ds s) (record { variable = v; relation = r; operand = o }) ≡ atom_truth (values ds t) (record { variable = v; relation = r; operand = o })
  compares v r (Variable k) h =
      let left = agree_at ds s t v (h v (or_left _ _ (eq-eqb v v refl))) in
      let right = agree_at ds s t k (h k (or_right (eqb v k) _ (eq-eqb k k refl))) in
      λ i. related r (left i) (right i)
  compares v r (Number n) h =
      let left = agree_at ds s t v (h v (or_left _ _ (eq-eqb v v refl))) in
      λ i. related r (left i) n

  pub depends : (a : Atom) → ((k : ℕ) → atom_reads a k ≡ true → k < length ds → value ds s k ≡ value ds t k) → atom_truth (values ds s) a ≡ atom_truth (values ds t) a
  depends a h = compares a.variable a.relation a.operand h

module _ (r : RuleSet) (h : well_formed r ≡ true) where
  law : (s t a : ℕ) → s < product (sizes r) → t < product (sizes r) → ((v : ℕ) → (text_columns r).reads a v ≡ true → value (sizes r) s v ≡ value (sizes r) t v) → (text_columns r).truth s a ≡ (text_columns r).truth t a
  law s t a ls lt agree =
      let ds = sizes r in
      let n = length (atoms_of r) in
      let atom = get_or (atoms_of r) a no_atom in
      let start : is_state r s ≡ is_state r t = lt-ltb s (product ds) ls ∙ sym (lt-ltb t (product ds) lt) in
      elim (cases_Bool (ltb a n)) [ inl in-range ↦ (let same = depends ds s t atom (λ k reads below. agree k (and_from _ _ in-range (and_from _ _ (lt-ltb k (length ds) below) reads))) in λ i. start i && (ltb a n && same i)) | inr out ↦ (λ i. start i && (out i && atom_truth (values_at r s) atom)) ∙ sym (λ i. is_state r t && (out i && atom_truth (values_at r t) atom)) ]

  pub columned : Columned (text_rules r) (text_columns r)
  columned =
      let ds = sizes r in
      let sound = formed_sizes r h in
      record {
        some = sound_some ds sound;
        most = sound_few ds sound;
        wide = λ v lt. (ranged_at ds v (sound_ranged ds sound) lt).0;
        states = refl;
        truth_state = λ s a t. ltb-true s (product ds) (and_parts _ _ t).0;
        truth_atom = λ s a t. ltb-true a (length (atoms_of r)) (and_parts _ _ (and_parts (is_state r s) _ t).1).0;
        reads_atom = λ a v t. ltb-true a (length (atoms_of r)) (and_parts _ _ t).0;
        reads_variable = λ a v t. ltb-true v (length ds) (and_parts _ _ (and_parts (ltb a (length (atoms_of r))) _ t).1).0;
        depends = law;
      }
