use Rattle.std.proofs.Common.{◌≡◌, subst}
use Rattle.std.proofs.lemmas.Result.{err_from_is_err_and}
use Rattle.words.specs.Lines.{lines_of}
use Rattle.words.specs.Pieces.{pieces}
use Rattle.reader.specs.Answers.{Tells}
use Rattle.reader.specs.Meanings.{rule_set_of}
use Rattle.reader.specs.WholeTexts.{sections}
use Rattle.reader.proofs.TextFacts.{answers, no_text}
use Rattle.reader.proofs.text.read.Goals as goal

pub returns-in_err-check_text : goal.returns-in_err-check_text
returns-in_err-check_text c =
    let p = err_from_is_err_and c.from_residual.result c.from_residual.ensures.1 in
    let none = c.in_err-check_text.ensures in
    rw (p.1, p.2) (no_text c.args.text.now c.in_err-check_text.field-0.0 none.0 none.1)

pub returns : goal.returns
returns c =
    let made = c.new-reader.ensures in
    let reader = c.new-reader.result in
    let all : sections reader.line (lines_of reader) ≡ sections 0 (pieces 10 c.args.text.now) = λ i. sections (made.line i) (pieces 10 (made.rest i)) in
    let says = subst (λ p. Tells rule_set_of p c.sections.result c.sections.new.reader) all c.sections.ensures in
    answers c.args.text.now c.sections.result c.sections.new.reader c.in_ok-check_text.ensures says
