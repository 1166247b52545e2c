-- The number, the layer and the place of each refusal of the text layer.
use Rattle.std.specs.Prelude.{ℕ}
use Rattle.rules.specs.declared.refusal.Refusal.{Refusal}
use Rattle.words.specs.declared.fault.WordFault.{WordFault}
use Rattle.words.specs.declared.fault.WordFault.TheVariants.{Text, Missing, Spacing, Form, Trailing}

abbrev pub word_refusal : WordFault → Refusal
word_refusal Text = record { number = 1; layer = 1; place = 0 }
word_refusal (Missing n) = record { number = 2; layer = 1; place = n }
word_refusal (Spacing n) = record { number = 3; layer = 1; place = n }
word_refusal (Form n) = record { number = 4; layer = 1; place = n }
word_refusal (Trailing n) = record { number = 11; layer = 1; place = n }

-- the number and the place of a fault are such that P
abbrev pub WordSays : WordFault → (ℕ → ℕ → Type 0) → Type 0
WordSays f P = P (word_refusal f).number (word_refusal f).place
