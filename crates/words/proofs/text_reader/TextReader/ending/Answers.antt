use Rattle.std.proofs.Common.{arith, false-eqb}
use Rattle.std.proofs.lemmas.Result.{err_from_is_err_and}
use Rattle.words.specs.Lines.{lines_of}
use Rattle.words.proofs.PieceFacts.{pieces_full}
use Rattle.words.proofs.EndFacts.{ending_bad}
use Rattle.words.proofs.text_reader.TextReader.ending.Goals as goal

pub returns-in_err-line : goal.returns-in_err-line
returns-in_err-line c =
    let p = err_from_is_err_and c.from_residual.result c.from_residual.ensures.1 in
    let n = c.args.self.now.line in
    let ls = lines_of c.args.self.now in
    let full = pieces_full 10 c.args.self.now.rest.now (omega (arith, false-eqb _ 0 c.if-is_empty.ensures)) in
    rw (p.1, p.2) (ending_bad n ls _ _ full c.in_err-line.ensures.tells)
