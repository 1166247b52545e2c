-- The end of a line.
use Rattle.std.proofs.Common.{◌≡◌, true, false, List, is_some, Some, None, Option, ap}
use Rattle.std.proofs.lemmas.Bool.{true≢false, false≢true}
use Rattle.words.specs.Lines.{left, Handed}
use Rattle.words.specs.Words.{Word}
use Rattle.words.specs.declared.line.Line.{Line}
use Rattle.words.specs.declared.line.Token.{Token}
use Rattle.conditions.specs.Parser.{ended}

pub ended_some : {A : Type 0} (a : A) (l : Line) (o : Option Token) (rest : List Word) → Handed l o rest → true ≡ is_some o → ended a (left l) ≡ None
ended_some a l None rest h e = absurd (true≢false e)
ended_some a l (Some t) rest h e = ap (ended a) h.0

pub ended_none : {A : Type 0} (a : A) (l : Line) (o : Option Token) (rest : List Word) → Handed l o rest → false ≡ is_some o → ended a (left l) ≡ Some a
ended_none a l None rest h e = ap (ended a) h.0
ended_none a l (Some t) rest h e = absurd (false≢true e)
