use Rattle.std.proofs.Common.{arith}
use Rattle.tuples.specs.Meaning.{sizes_of, clusters_of}
use Rattle.tuples.proofs.Widths.{before_more}
use Rattle.columnsheet.proofs.JoinLoops.{start_is, end_is}
use Rattle.columnsheet.proofs.OwnTuples.{own_end}
use Rattle.columnsheet.proofs.parting.places_of.Goals as goal

pub returns : goal.returns
returns c =
    let x = c.args.tuples.now in
    let from = start_is x c.args.k c.requires c.start.result c.start.ensures.tells in
    let to = end_is x c.args.k c.requires c.start-2.result c.start-2.ensures.tells in
    let more = before_more (sizes_of x) (clusters_of x) c.args.k in
    record {
      starts = from;
      ends = to;
      rises = omega arith;
      inside = omega (arith, own_end x c.args.k c.requires);
      wide = omega arith;
    }
