-- The node is the next of those that are left.
use Rattle.std.proofs.Common.{◌+◌, refl, arith}
use Rattle.wh_system.specs.SystemView.{system_data}
use Rattle.wh_pairs.specs.Views.{pairs_data}
use Rattle.wh_cert.specs.Items.{node}
use Rattle.wh_cert.specs.Said.{said_node}
use Rattle.wh_checker_walk.proofs.Passing.{cause_on}
use Rattle.wh_checker_walk.specs.Walking.{Leads, AtNodes, IsBlamed}
use Rattle.wh_checker_walk.proofs.NodesOn.{at_node, nodes_on, nodes_fault}
use Rattle.wh_checker_walk.proofs.nodes.Nodes.take.Goals as goal

pub check_next-requires-clause-typed : goal.check_next-requires-clause-typed
check_next-requires-clause-typed c =
    λ marks p found. c.pairs_have_marked_sides.ensures (system_data c.args.system.now)
    (pairs_data c.args.pairs.now) marks p c.is_well_made.ensures c.requires.pairs.are found

pub check_next-requires-clause-come : goal.check_next-requires-clause-come
check_next-requires-clause-come c =
    let here = at_node (system_data c.args.system.now) (pairs_data c.args.pairs.now) c.args.self.now (said_node c.args.line.now) c.requires.come in
    (here.set, here.lines, here.left, here.come)

pub check_next-requires-clause-numbered : goal.check_next-requires-clause-numbered
check_next-requires-clause-numbered c =
    let here = at_node (system_data c.args.system.now) (pairs_data c.args.pairs.now) c.args.self.now (said_node c.args.line.now) c.requires.come in
    here.numbered

pub returns-in_err-check_next : goal.returns-in_err-check_next
returns-in_err-check_next c =
    let d = system_data c.args.system.now in
    let ps = pairs_data c.args.pairs.now in
    let k = c.args.self.now in
    let x = said_node c.args.line.now in
    cause_on c.from_residual.result c.in_err-check_next.field-0.0 _ _ (λ f. Leads (AtNodes d ps k) (node x) (IsBlamed d ps f))
    c.from_residual.ensures.1 c.in_err-check_next.ensures.fault (λ f fault. nodes_fault d ps k x f fault)

pub overflow_add-self : goal.overflow_add-self
overflow_add-self c =
    let here = at_node (system_data c.args.system.now) (pairs_data c.args.pairs.now) c.args.self.now (said_node c.args.line.now) c.requires.come in
    grind (arith, here.few)

pub returns : goal.returns
returns c =
    nodes_on (system_data c.args.system.now) (pairs_data c.args.pairs.now) c.args.self.now
    (record { stack = c.check_next.new.stack; next = c.args.self.now.next + 1; numbered = c.check_next.new.numbered })
    (said_node c.args.line.now) refl c.in_ok-check_next.ensures.numbered c.in_ok-check_next.ensures.on
