-- What a line and a text reader of the code stand for, and what their answers say.
use Rattle.std.specs.Prelude.{◌≡◌, ℕ, true, false, List, [], ◌∷◌, Some, None, Ok, Err, Option, Result}
use Rattle.words.specs.Faults.{WordSays}
use Rattle.words.specs.Pieces.{pieces}
use Rattle.words.specs.Reading.{Read, got, refused}
use Rattle.words.specs.Texts.{is_text}
use Rattle.words.specs.Words.{Word, words}
use Rattle.words.specs.declared.fault.WordFault.{WordFault}
use Rattle.words.specs.declared.fault.WordFault.TheVariants.{Text}
use Rattle.words.specs.declared.line.Line.{Line}
use Rattle.words.specs.declared.line.Token.{Token}
use Rattle.words.specs.declared.text_reader.TextReader.{TextReader}

-- the words that are left of a line
abbrev pub left : Line → List Word
left l = words l.rest.now

-- the token is the first word of the line l, and rest are the others
abbrev pub Handed : Line → Option Token → List Word → Type 0
Handed l None rest = (left l ≡ []) × (rest ≡ [])
Handed l (Some t) rest = (left l ≡ t.text.now ∷ rest) × (t.line ≡ l.number)

-- the lines that are left of a text
abbrev pub lines_of : TextReader → List (List ℕ)
lines_of z = pieces 10 z.rest.now

-- an answer of the code, which f turns into what it means, is the reading p, and z has the lines that are then left
abbrev pub WordTells : {A B : Type 0} → (A → B) → Read B → Result A WordFault → TextReader → Type 0
WordTells f p (Ok a) z = p ≡ got (f a) z.line (lines_of z)
WordTells f p (Err e) z = WordSays e (λ number place. p ≡ refused number place)

-- a line has the number of the last one that was handed out
abbrev pub Numbered : Result Line WordFault → TextReader → Type 0
Numbered (Ok l) z = l.number ≡ z.line
Numbered (Err e) z = Unit {0}

-- bytes are taken for a text exactly if they are one
abbrev pub Opens : List ℕ → Result (Unit {0}) WordFault → Type 0
Opens t (Ok u) = is_text t ≡ true
Opens t (Err e) = (is_text t ≡ false) × (e ≡ Text)
