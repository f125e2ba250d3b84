use Rattle.std.proofs.Common.{arith}
use Rattle.wh_find_flat.proofs.Loops.{place_within}
use Rattle.wh_find_flat.proofs.formula.Calls.number.Goals as goal

pub overflow_cast-result : goal.overflow_cast-result
overflow_cast-result c = omega (arith, place_within c.args.self.now.marked.now c.args.symbol, c.place.ensures, c.requires)

pub overflow_add-result : goal.overflow_add-result
overflow_add-result c = omega (arith, place_within c.args.self.now.marked.now c.args.symbol, c.place.ensures, c.requires)
