-- The walk goes back along the path, and ends at the root.
use Rattle.std.proofs.Common.{◌≡◌, Some, None, ◌∙◌}
use Rattle.wh_poly_moves.specs.Paths.{link}
use Rattle.wh_poly_moves.proofs.SearchSteps.{link_read}
use Rattle.wh_poly_moves.proofs.PathLeft.{link_at, link_here, path_steps_back, root_given}
use Rattle.wh_poly_moves.proofs.flow.Flow.grow.Goals as goal

pub reroute-requires-clause-here : goal.reroute-requires-clause-here
reroute-requires-clause-here c =
    let e : link c.in-Some.path.steps.items c.loop-link.at ≡ Some c.in-Some-link.link = link_read c.in-Some.path.steps.items c.loop-link.at c.index.result.now c.loop-link.invariant.here c.index.ensures ∙ c.in-Some-link.is in
    link_here c.args.left.now c.args.right.now c.args.self.now c.loop-link.self c.in-Some.path.steps.items c.args.root c.loop-link.at c.loop-link.giver c.in-Some-link.link c.loop-link.invariant e

pub loop-link-smaller : goal.loop-link-smaller
loop-link-smaller c =
    let e : link c.in-Some.path.steps.items c.loop-link.at ≡ Some c.in-Some-link.link = link_read c.in-Some.path.steps.items c.loop-link.at c.index.result.now c.loop-link.invariant.here c.index.ensures ∙ c.in-Some-link.is in
    (link_at c.args.left.now c.args.right.now c.args.self.now c.loop-link.self c.in-Some.path.steps.items c.args.root c.loop-link.at c.loop-link.giver c.in-Some-link.link c.loop-link.invariant e).before

pub loop-link-preserved : goal.loop-link-preserved
loop-link-preserved c =
    let e : link c.in-Some.path.steps.items c.loop-link.at ≡ Some c.in-Some-link.link = link_read c.in-Some.path.steps.items c.loop-link.at c.index.result.now c.loop-link.invariant.here c.index.ensures ∙ c.in-Some-link.is in
    path_steps_back c.args.left.now c.args.right.now c.args.self.now c.loop-link.self c.reroute.new.self c.in-Some.path.steps.items c.args.root c.loop-link.at c.loop-link.giver c.in_ok-giver.giver c.in-Some-link.link c.loop-link.invariant e c.in_ok-giver.ensures

pub returns-clause-flow : goal.returns-clause-flow
returns-clause-flow c =
    let e : link c.in-Some.path.steps.items c.loop-link.at ≡ None = link_read c.in-Some.path.steps.items c.loop-link.at c.index.result.now c.loop-link.invariant.here c.index.ensures ∙ c.in_default.is in
    let can = root_given c.args.left.now c.args.right.now c.args.self.now c.loop-link.self c.in-Some.path.steps.items c.args.root c.loop-link.at c.loop-link.giver c.loop-link.invariant e in
    c.in_ok-give.ensures.flow c.args.left.now c.args.right.now c.loop-link.invariant.flow can
