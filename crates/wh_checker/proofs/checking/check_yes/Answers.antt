-- The head and the nodes, put together.
use Rattle.std.proofs.Common.{◌<◌, ℕ, List, [], ◌∷◌, All, length, map, subst}
use Rattle.wh_system.specs.SystemView.{system_data}
use Rattle.wh_pairs.specs.Views.{pairs_data}
use Rattle.wh_cert.specs.Said.{said_node}
use Rattle.wh_cert.specs.Written as w
use Rattle.wh_cert.specs.declared.certificate.Node.{Node}
use Rattle.wh_polycheck.specs.Small.{with_limits}
use Rattle.wh_checker.specs.Faults.{IsFirstYesFault}
use Rattle.wh_checker.specs.Walk.{HasBegun, IsFaultInNodes}
use Rattle.wh_checker.specs.declared.rejected.CheckFault.{CheckFault}
use Rattle.wh_proof.specs.GoesOn.{AreProvedBy}
use Rattle.std.proofs.lemmas.List.{length-map}
use Rattle.wh_pairs.specs.PairData.{pair_data}
use Rattle.wh_pairs.proofs.SetLemmas.{all_from_members}
use Rattle.wh_checker.proofs.YesLemmas.{passed_on, valid_yes, small_yes, node_fault, ok_weaker, cause_weaker}
use Rattle.wh_checker.proofs.checking.check_yes.Goals as goal

pub returns-in_err-whole-clause-fault : goal.returns-in_err-whole-clause-fault
returns-in_err-whole-clause-fault c =
    let d = system_data c.args.system.now in
    let ps = pairs_data c.args.pairs.now in
    let cert = c.args.certificate.now in
    let lines = map said_node cert.nodes in
    passed_on c.from_residual.result c.in_err-whole.field-0.0 _
    (λ (f : CheckFault). (l : List w.Node) → IsFirstYesFault with_limits d ps c.as_slice-ranks.result.now cert.pairs l f)
    (IsFirstYesFault with_limits d ps cert.ranks cert.pairs lines) c.from_residual.ensures.1 c.in_err-whole.ensures
    (λ f fault. subst (λ (r : List ℕ). IsFirstYesFault with_limits d ps r cert.pairs lines f) c.as_slice-ranks.ensures (fault lines))

pub check_nodes-requires-clause-typed : goal.check_nodes-requires-clause-typed
check_nodes-requires-clause-typed c =
    λ marks p found. c.pairs_have_marked_sides.ensures (system_data c.args.system.now)
    (pairs_data c.args.pairs.now) marks p c.is_well_made.ensures c.requires.pairs.are found

pub check_nodes-requires-clause-set : goal.check_nodes-requires-clause-set
check_nodes-requires-clause-set c =
    let ps = pairs_data c.args.pairs.now in
    let pairs = c.args.pairs.now in
    subst (λ n. All (λ m. m < n) c.in_ok-whole.whole) (length-map pairs pair_data)
    (all_from_members (λ m. m < length ps) c.in_ok-whole.whole (λ m found. (c.in_ok-whole.ensures.whole.each m).0 found))

pub returns-clause-valid : goal.returns-clause-valid
returns-clause-valid c =
    let d = system_data c.args.system.now in
    let ps = pairs_data c.args.pairs.now in
    let cert = c.args.certificate.now in
    let set = c.in_ok-whole.whole in
    let begun = subst (λ (r : List ℕ). HasBegun d ps r cert.pairs set) c.as_slice-ranks.ensures c.in_ok-whole.ensures in
    ok_weaker c.check_nodes.result _ _ c.check_nodes.ensures.proved (λ proved.
    valid_yes d ps cert.ranks cert.pairs (map said_node cert.nodes) set begun
    (subst (λ (l : List Node). AreProvedBy d ps (set ∷ []) (map said_node l)) c.as_slice.ensures proved))

pub returns-clause-small : goal.returns-clause-small
returns-clause-small c =
    let d = system_data c.args.system.now in
    let ps = pairs_data c.args.pairs.now in
    let cert = c.args.certificate.now in
    let set = c.in_ok-whole.whole in
    ok_weaker c.check_nodes.result _ _ c.check_nodes.ensures.proved (λ proved.
    small_yes d ps (map said_node cert.nodes) set c.in_ok-whole.ensures.whole
    (subst (λ (l : List Node). AreProvedBy d ps (set ∷ []) (map said_node l)) c.as_slice.ensures proved))

pub returns-clause-fault : goal.returns-clause-fault
returns-clause-fault c =
    let d = system_data c.args.system.now in
    let ps = pairs_data c.args.pairs.now in
    let cert = c.args.certificate.now in
    let set = c.in_ok-whole.whole in
    let begun = subst (λ (r : List ℕ). HasBegun d ps r cert.pairs set) c.as_slice-ranks.ensures c.in_ok-whole.ensures in
    cause_weaker c.check_nodes.result (IsFaultInNodes d ps set (map said_node c.as_slice.result.now)) _ c.check_nodes.ensures.fault
    (λ r fault.
    node_fault d ps cert.ranks cert.pairs (map said_node cert.nodes) set begun r
    (subst (λ (l : List Node). IsFaultInNodes d ps set (map said_node l) r) c.as_slice.ensures fault))

pub returns-clause-bounded : goal.returns-clause-bounded
returns-clause-bounded c =
    let d = system_data c.args.system.now in
    let ps = pairs_data c.args.pairs.now in
    let cert = c.args.certificate.now in
    let set = c.in_ok-whole.whole in
    let begun = c.in_ok-whole.ensures in
    ok_weaker c.check_nodes.result _ _ c.check_nodes.ensures.proved (λ (nodes, says, proves, small).
    c.proved_systems_are_bounded.ensures d c.as_slice-ranks.result.now ps set nodes c.is_well_made.ensures begun.passing.1
    c.requires.pairs.are (λ n below. (begun.whole.each n).1 below) proves)
