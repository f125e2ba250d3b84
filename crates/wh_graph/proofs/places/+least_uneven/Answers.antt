use Rattle.std.proofs.Common.{◌<◌, length, Option, ℕ, sym, subst, arith}
use Rattle.std.proofs.lemmas.Bool.Decides.{nat_tests}
use Rattle.wh_graph.specs.Least.{LeastOf}
use Rattle.wh_graph.specs.Times.{IsUneven}
use Rattle.wh_graph.proofs.CountLemmas.{increasing_take, increasing_back, front_long, front_few, back_less, least_of_pieces}
use Rattle.wh_graph.proofs.places.+least_uneven.Goals as goal

pub slice_bounds-first_uneven-end : goal.slice_bounds-first_uneven-end
slice_bounds-first_uneven-end t c =
    let longer : 4096 < length c.args.set.now = grind (arith, nat_tests, c.if-set-le-PIECE.false) in front_long 4096 c.args.set.now longer

pub first_uneven-requires-2-clause-increasing : goal.first_uneven-requires-2-clause-increasing
first_uneven-requires-2-clause-increasing t c = increasing_take 4096 c.args.set.now c.requires

pub first_uneven-requires-2-clause-few : goal.first_uneven-requires-2-clause-few
first_uneven-requires-2-clause-few t c = front_few 4096 c.args.set.now

pub least_uneven-requires : goal.least_uneven-requires
least_uneven-requires t c =
    let longer : 4096 < length c.args.set.now = grind (arith, nat_tests, c.if-set-le-PIECE.false) in
    (omega (arith, back_less 4096 c.args.set.now (omega arith) longer, c.decreases), increasing_back 4096 c.args.set.now c.requires)

pub returns : goal.returns
returns t c =
    subst (λ (o : Option ℕ). LeastOf (IsUneven c.args.set.now c.args.blocks.now) o) (sym c.smaller.ensures)
    (least_of_pieces 4096 c.args.set.now c.args.blocks.now c.first_uneven-2.result c.least_uneven.result c.first_uneven-2.ensures c.least_uneven.ensures)
