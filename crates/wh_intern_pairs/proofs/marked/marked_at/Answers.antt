use Rattle.std.proofs.Common.{map}
use Rattle.wh_intern_pairs.specs.SidesAsPairs.{heads_of}
use Rattle.wh_intern_pairs.proofs.MarkedPlaces.{marked_there, marked_before}
use Rattle.wh_intern_pairs.proofs.marked.marked_at.Goals as goal

pub returns-in-Some : goal.returns-in-Some
returns-in-Some c = (
  c.in-Some.ensures.0,
  marked_there (map heads_of c.args.sides.now) c.args.set.now c.args.symbol c.in-Some.place c.in-Some.ensures.1,
)

pub returns-in-None : goal.returns-in-None
returns-in-None c =
    marked_before (map heads_of c.args.sides.now) c.args.set.now c.args.symbol c.args.from c.headed_between-in-None.result c.in-None.ensures
    c.headed_between-in-None.ensures
