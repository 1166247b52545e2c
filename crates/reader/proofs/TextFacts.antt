-- What is promised of a whole text, from what was read of it.
use Rattle.std.proofs.Common.{◌≡◌, ℕ, true, false, ◌⊎◌, List, Ok, Err, Result, sym, refl, ap, ◌∙◌, inl, inr, arith}
use Rattle.words.specs.Faults.{word_refusal}
use Rattle.words.specs.Lines.{lines_of}
use Rattle.words.specs.Pieces.{pieces}
use Rattle.words.specs.Reading.{got, refused, given}
use Rattle.words.specs.Texts.{is_text}
use Rattle.words.specs.declared.fault.WordFault.{WordFault}
use Rattle.words.specs.declared.fault.WordFault.TheVariants.{Text, Missing, Spacing, Form, Trailing}
use Rattle.words.specs.declared.text_reader.TextReader.{TextReader}
use Rattle.reader.specs.Answers.{Answers, RefusedWith, Tells}
use Rattle.reader.specs.Faults.{FaultSays, layer, read_refusal}
use Rattle.reader.specs.Meanings.{rule_set_of}
use Rattle.reader.specs.RuleSets.{RuleSet}
use Rattle.reader.specs.Says.{Says}
use Rattle.reader.specs.WholeTexts.{sections, read_text}
use Rattle.reader.specs.declared.fault.ReadFault.{ReadFault}
use Rattle.reader.specs.declared.fault.ReadFault.TheVariants.{Word, Limit, Twice, Undeclared, Value, Larger, Product, Memory}
use Rattle.reader.specs.declared.rule_set.RuleSet.{RuleSet as CodeRuleSet}
use Rattle.reader.proofs.FaultFacts.{fault_implies}
use Rattle.reader.proofs.Exactly.{reads_exactly}

-- a text that is refused says nothing
says_nothing : (t : List ℕ) (number place : ℕ) → read_text t ≡ refused number place → (r : RuleSet) → Says t r → ⊥
says_nothing t number place e r said =
    let h = (reads_exactly t r).1 said in
    let both : got r h.0 h.1 ≡ refused number place = sym h.2 ∙ e in
    let z : ◌≡◌ {A = ℕ} 0 1 = cc in
    omega arith

word_layer : (f : WordFault) → (word_refusal f).layer ≡ layer (word_refusal f).number
word_layer Text = refl
word_layer (Missing n) = refl
word_layer (Spacing n) = refl
word_layer (Form n) = refl
word_layer (Trailing n) = refl

-- a fault that is the demanded refusal, or want of memory
demanded : (t : List ℕ) (e : ReadFault) → FaultSays e (λ number place. read_text t ≡ refused number place) → (e ≡ Memory) ⊎ RefusedWith t (read_refusal e)
demanded t (Word f) h = inr (record { demanded = h; layered = word_layer f; unsaid = says_nothing t _ _ h })
demanded t (Limit n) h = inr (record { demanded = h; layered = refl; unsaid = says_nothing t _ _ h })
demanded t (Twice n) h = inr (record { demanded = h; layered = refl; unsaid = says_nothing t _ _ h })
demanded t (Undeclared n) h = inr (record { demanded = h; layered = refl; unsaid = says_nothing t _ _ h })
demanded t (Value n) h = inr (record { demanded = h; layered = refl; unsaid = says_nothing t _ _ h })
demanded t (Larger n) h = inr (record { demanded = h; layered = refl; unsaid = says_nothing t _ _ h })
demanded t (Product n) h = inr (record { demanded = h; layered = refl; unsaid = says_nothing t _ _ h })
demanded t Memory h = inl refl

text_sections : (t : List ℕ) → is_text t ≡ true → read_text t ≡ sections 0 (pieces 10 t)
text_sections t e = ap (λ b. given b 1 0 (sections 0 (pieces 10 t))) e

pub answers : (t : List ℕ) (r : Result CodeRuleSet ReadFault) (z : TextReader) → is_text t ≡ true → Tells rule_set_of (sections 0 (pieces 10 t)) r z → Answers t r
answers t (Ok r) z e h = (reads_exactly t (rule_set_of r)).0 (z.line, lines_of z, text_sections t e ∙ h)
answers t (Err f) z e h =
    demanded t f (fault_implies f (λ number place. sections 0 (pieces 10 t) ≡ refused number place) (λ number place. read_text t ≡ refused number place) (λ number place x. text_sections t e ∙ x) h)

-- bytes that are no text are refused under 1
pub no_text : (t : List ℕ) (e : WordFault) → is_text t ≡ false → e ≡ Text → Answers t (Err (Word e))
no_text t e none is =
    demanded t (Word e) (ap (λ b. given b 1 0 (sections 0 (pieces 10 t))) none ∙ ap (λ f. refused (word_refusal f).number (word_refusal f).place) (sym is))
