-- Faults that come from a part.
use Rattle.std.proofs.Common.{◌≡◌, ℕ, None, Option, ap, ◌∙◌}
use Rattle.words.specs.Faults.{word_refusal}
use Rattle.words.specs.declared.fault.WordFault.{WordFault}
use Rattle.words.specs.declared.fault.WordFault.TheVariants.{Form}
use Rattle.reader.specs.Faults.{FaultSays}
use Rattle.reader.specs.declared.fault.ReadFault.{ReadFault}
use Rattle.reader.specs.declared.fault.ReadFault.TheVariants.{Word, Limit, Twice, Undeclared, Value, Larger, Product, Memory}

pub fault_implies : (e : ReadFault) (P Q : ℕ → ℕ → Type 0) → ((i k : ℕ) → P i k → Q i k) → FaultSays e P → FaultSays e Q
fault_implies (Word e) P Q f h = f (word_refusal e).number (word_refusal e).place h
fault_implies (Limit n) P Q f h = f 5 n h
fault_implies (Twice n) P Q f h = f 6 n h
fault_implies (Undeclared n) P Q f h = f 7 n h
fault_implies (Value n) P Q f h = f 8 n h
fault_implies (Larger n) P Q f h = f 9 n h
fault_implies (Product n) P Q f h = f 10 n h
fault_implies Memory P Q f h = tt

-- a fault of a part of the line is one of the line
pub part_fails : {A B : Type 0} (e : ReadFault) (p : Option A) (q : Option B) (m n : ℕ) → m ≡ n → (p ≡ None → q ≡ None) → FaultSays e (λ item at. (p ≡ None) × (item ≡ 4) × (at ≡ m)) → FaultSays e (λ item at. (q ≡ None) × (item ≡ 4) × (at ≡ n))
part_fails e p q m n same k h =
    fault_implies e (λ item at. (p ≡ None) × (item ≡ 4) × (at ≡ m)) (λ item at. (q ≡ None) × (item ≡ 4) × (at ≡ n)) (λ i at u. (k u.0, u.1, u.2 ∙ same)) h

pub word_fails : {A B : Type 0} (e : WordFault) (p : Option A) (q : Option B) (m n : ℕ) → m ≡ n → (p ≡ None → q ≡ None) → (p ≡ None) × (e ≡ Form m) → FaultSays (Word e) (λ item at. (q ≡ None) × (item ≡ 4) × (at ≡ n))
word_fails e p q m n same k h = (k h.0, ap (λ f. (word_refusal f).number) h.1, ap (λ f. (word_refusal f).place) h.1 ∙ same)
