use Rattle.std.proofs.Common.{arith}
use Rattle.wh_poly_moves.proofs.VisitWalk.{path_steps}
use Rattle.wh_poly_moves.proofs.Cut.{none_covers}
use Rattle.wh_poly_moves.proofs.search.find_path.Goals as goal

pub loop-at-preserved : goal.loop-at-preserved
loop-at-preserved c = path_steps c.args.left.now c.args.right.now c.args.flow.now c.args.root c.loop-at.search c.visit.new.self c.reach.new.self c.loop-at.at c.loop-at.invariant
    (omega (arith, c.loop-at-test.true, c.len.ensures, c.loop-at.search.steps.ok.0)) c.in-None.ensures.marked c.in-None.ensures.found
    (c.in_ok-reach-in-None.ensures.search c.args.left.now c.args.right.now c.requires.flow c.in-None.ensures.search) c.in_ok-reach-in-None.ensures.reached c.in_ok-reach-in-None.ensures.stepped

pub returns : goal.returns
returns c = none_covers c.args.left.now c.args.right.now c.args.flow.now c.args.root c.loop-at.search c.loop-at.at c.requires.flow c.loop-at.invariant
    (omega (arith, c.loop-at-test.false, c.len.ensures, c.loop-at.search.steps.ok.0)) c.requires.here c.requires.wants
