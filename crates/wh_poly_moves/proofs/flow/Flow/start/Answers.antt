use Rattle.wh_poly_moves.proofs.FlowSteps.{starts}
use Rattle.wh_poly_moves.proofs.flow.Flow.start.Goals as goal

pub returns-clause-flow : goal.returns-clause-flow
returns-clause-flow c = starts c.args.left.now c.args.right.now (record { free = c.in_ok-free.free; want = c.in_ok-want.want; moves = c.new.result })
    c.in_ok-free.ensures.same c.in_ok-want.ensures.same c.in_ok-free.ensures.fit c.in_ok-want.ensures.fit c.new.ensures.items
