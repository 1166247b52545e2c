-- A whole text: three sections, and nothing behind them.
use Rattle.std.specs.Prelude.{ℕ, List}
use Rattle.words.specs.Pieces.{pieces}
use Rattle.words.specs.Reading.{Read, got, then, given, ending}
use Rattle.words.specs.Texts.{is_text}
use Rattle.reader.specs.BlockLines.{section_blocks}
use Rattle.reader.specs.BreakLines.{section_breaks}
use Rattle.reader.specs.RuleSets.{RuleSet}
use Rattle.reader.specs.VariableLines.{section_variables}

abbrev pub sections : ℕ → List (List ℕ) → Read RuleSet
sections n ls =
    then (section_variables n ls) (λ vs a first.
    then (section_blocks vs a first) (λ bs b rest.
    then (section_breaks vs b rest) (λ cs c last.
    then (ending c last) (λ _ d none. got (record { variables = vs; blocks = bs; breaks = cs }) d none))))

-- what a text says, or the number and the place under which it is refused: 1 bytes that are no text
abbrev pub read_text : List ℕ → Read RuleSet
read_text t = given (is_text t) 1 0 (sections 0 (pieces 10 t))
