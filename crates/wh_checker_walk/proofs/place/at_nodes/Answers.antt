-- A node, or the end.
use Rattle.std.proofs.Common.{sym, subst, subst₂}
use Rattle.wh_system.specs.SystemView.{system_data}
use Rattle.wh_pairs.specs.Views.{pairs_data}
use Rattle.wh_cert.specs.Items.{node, end}
use Rattle.wh_cert.specs.Said.{said_item, said_node}
use Rattle.wh_checker.specs.declared.checking.Accepted.TheVariants.{Yes}
use Rattle.wh_checker_walk.specs.Walking.{Leads, CanCome, AtNodes, IsBlamed, IsWhole}
use Rattle.wh_checker_walk.proofs.Passing.{or_on}
use Rattle.wh_checker_walk.proofs.NextItems.{no_other_node}
use Rattle.wh_checker_walk.proofs.place.at_nodes.Goals as goal

pub take-requires-clause-come : goal.take-requires-clause-come
take-requires-clause-come c =
    let d = system_data c.args.system.now in
    let ps = pairs_data c.args.pairs.now in
    subst₂ (λ k x. CanCome (AtNodes d ps k) (node (said_node x))) (sym c.deref_mut.ensures.value) (sym c.deref.ensures)
    (subst (λ i. CanCome (AtNodes d ps c.args.nodes.value) (said_item i)) c.in-Node.is c.requires.come)

pub returns-in_err-take-in-Node : goal.returns-in_err-take-in-Node
returns-in_err-take-in-Node c =
    let d = system_data c.args.system.now in
    let ps = pairs_data c.args.pairs.now in
    let P = AtNodes d ps c.args.nodes.value in
    or_on c.from_residual.result c.in_err-take-in-Node.field-0.0 _ _ _ (λ f. Leads P (said_item c.args.item.now) (IsBlamed d ps f))
    c.from_residual.ensures.1 c.in_err-take-in-Node.ensures (λ f h.
    subst (λ i. Leads P (said_item i) (IsBlamed d ps f)) (sym c.in-Node.is)
    (subst₂ (λ k x. Leads (AtNodes d ps k) (node (said_node x)) (IsBlamed d ps f)) c.deref_mut.ensures.value c.deref.ensures h))

pub returns-in_ok-take-in-Node : goal.returns-in_ok-take-in-Node
returns-in_ok-take-in-Node c =
    let d = system_data c.args.system.now in
    let ps = pairs_data c.args.pairs.now in
    subst (λ i. Leads (AtNodes d ps c.args.nodes.value) (said_item i) (AtNodes d ps c.take.new.self)) (sym c.in-Node.is)
    (subst₂ (λ k x. Leads (AtNodes d ps k) (node (said_node x)) (AtNodes d ps c.take.new.self)) c.deref_mut.ensures.value c.deref.ensures
    c.in_ok-take-in-Node.ensures)

pub returns-in-End : goal.returns-in-End
returns-in-End c =
    let d = system_data c.args.system.now in
    let ps = pairs_data c.args.pairs.now in
    subst (λ i. Leads (AtNodes d ps c.args.nodes.value) (said_item i) (IsWhole d ps (Yes c.accepted.result))) (sym c.in-End.is)
    (subst (λ k. Leads (AtNodes d ps k) end (IsWhole d ps (Yes c.accepted.result))) c.deref-in-End.ensures c.accepted.ensures)

pub unreachable-requires : goal.unreachable-requires
unreachable-requires c =
    no_other_node (system_data c.args.system.now) (pairs_data c.args.pairs.now) c.args.nodes.value c.args.item.now c.in_default.not-Node
    c.in_default.not-End c.requires.come
