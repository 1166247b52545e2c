use Rattle.std.proofs.Common.{◌+◌, get_or, sym, ◌∙◌, arith}
use Rattle.columnsheet.proofs.JoinLoops.{start_is, place_at}
use Rattle.columnsheet.proofs.OwnTuples.{own_class}
use Rattle.columnsheet.proofs.parts.Parts.class.Goals as goal

pub overflow_add-result : goal.overflow_add-result
overflow_add-result c = omega (arith, place_at c.args.self.now.tuples c.args.k c.requires.cluster c.args.t c.start.result c.from.result c.requires.tuple c.from.ensures c.start.ensures.tells)

pub offset_bounds-self-start : goal.offset_bounds-self-start
offset_bounds-self-start c = omega (arith, place_at c.args.self.now.tuples c.args.k c.requires.cluster c.args.t c.start.result c.from.result c.requires.tuple c.from.ensures c.start.ensures.tells)

pub bounds-self-start : goal.bounds-self-start
bounds-self-start c = place_at c.args.self.now.tuples c.args.k c.requires.cluster c.args.t c.start.result c.from.result c.requires.tuple c.from.ensures c.start.ensures.tells

pub returns : goal.returns
returns c =
    let p = c.args.self.now in
    (λ j. get_or p.classes (start_is p.tuples c.args.k c.requires.cluster c.start.result c.start.ensures.tells j + c.from.ensures j) 0) ∙ sym (own_class p c.args.k c.args.t c.requires.tuple)
