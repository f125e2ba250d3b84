use Rattle.std.proofs.Common.{◌≡◌, ◌++◌, ℕ, List, map, reverse, sym, ap, subst, ◌∙◌}
use Rattle.wh_system.specs.SystemView.{system_data}
use Rattle.wh_pairs.specs.declared.pair.Pair.{Pair}
use Rattle.wh_pairs.specs.Views.{pairs_data}
use Rattle.wh_graph.specs.Blocks.{AreBlocks}
use Rattle.wh_graph.specs.May.{Follows}
use Rattle.wh_proof.specs.Nodes.{AreSetsOf}
use Rattle.wh_cert.specs.Said.{said_arg, said_node}
use Rattle.wh_cert.specs.declared.certificate.Node.{Node}
use Rattle.wh_cert.specs.declared.certificate.Arg.{Arg}
use Rattle.wh_checker.specs.Walk.{IsSingle, IsReduced}
use Rattle.wh_proof.specs.GoesOn.{GoesOn}
use Rattle.wh_checker.proofs.GoLemmas.{ok_then, goes_done, goes_alone, goes_blocks, goes_subterm}
use Rattle.wh_proof.proofs.BlockLemmas.{reverse_push}
use Rattle.wh_checker.proofs.node.check_node.Goals as goal

pub returns-in-Done-clause-proved : goal.returns-in-Done-clause-proved
returns-in-Done-clause-proved c =
    let d = system_data c.args.system.now in
    let ps = pairs_data c.args.pairs.now in
    let set = c.args.set.now in
    let sets = reverse c.args.stack.now.items in
    ok_then c.check_done.result _ _ _ c.check_done.ensures (λ empty. subst (λ (n : Node). GoesOn d ps set (said_node n) sets sets)
    (sym c.in-Done.is) (goes_done d ps set sets empty))

pub returns-in-Alone-clause-proved : goal.returns-in-Alone-clause-proved
returns-in-Alone-clause-proved c =
    let d = system_data c.args.system.now in
    let ps = pairs_data c.args.pairs.now in
    let set = c.args.set.now in
    let sets = reverse c.args.stack.now.items in
    ok_then c.check_alone.result _ _ _ c.check_alone.ensures (λ one.
    let here = subst (λ (l : List ℕ). IsSingle d.rules ps l) c.as_slice-in-Alone.ensures.numbers
    (subst (λ (l : List Pair). IsSingle d.rules (pairs_data l) c.as_slice-in-Alone.result.now) c.as_slice.ensures one) in
    subst (λ (n : Node). GoesOn d ps set (said_node n) sets sets) (sym c.in-Alone.is) (goes_alone d ps set sets here))

pub returns-in_ok-open_blocks-in-Blocks-clause-proved : goal.returns-in_ok-open_blocks-in-Blocks-clause-proved
returns-in_ok-open_blocks-in-Blocks-clause-proved c =
    let d = system_data c.args.system.now in
    let ps = pairs_data c.args.pairs.now in
    let set = c.args.set.now in
    let parts = c.in-Blocks.parts in
    let sets = reverse c.args.stack.now.items in
    let after = reverse c.open_blocks.new.stack.items in
    let are = subst (λ (l : List (List ℕ)). AreBlocks (Follows d.rules ps) set l) c.as_slice-in-Blocks.ensures c.in_default.ensures in
    let left = subst (λ (l : List (List ℕ)). (left : List (List ℕ)) × AreSetsOf l left ×
    (after ≡ left ++ sets)) c.as_slice-in-Blocks-2.ensures c.in_ok-open_blocks-in-Blocks.ensures in
    subst (λ (n : Node). GoesOn d ps set (said_node n) sets after) (sym c.in-Blocks.is) (goes_blocks d ps set parts sets after are left)

pub returns-in_ok-push-in-Ok-clause-proved : goal.returns-in_ok-push-in-Ok-clause-proved
returns-in_ok-push-in-Ok-clause-proved c =
    let d = system_data c.args.system.now in
    let ps = pairs_data c.args.pairs.now in
    let set = c.args.set.now in
    let lines = map said_arg c.in-Subterm.args in
    let drop = c.in-Subterm.drop in
    let rest = c.in-Ok.rest in
    let sets = reverse c.args.stack.now.items in
    let after = reverse c.push.new.self.items in
    let reduced = subst (λ (l : List ℕ). IsReduced d ps set lines l rest) c.as_slice-in-Subterm-2.ensures
    (subst (λ (l : List Arg). IsReduced d ps set (map said_arg l) c.as_slice-in-Subterm-2.result.now rest) c.as_slice-in-Subterm.ensures
    c.in-Ok.ensures.reduced) in
    let after_is = ap reverse c.in_ok-push-in-Ok.ensures.items ∙ reverse_push c.args.stack.now.items rest in
    subst (λ (n : Node). GoesOn d ps set (said_node n) sets after) (sym c.in-Subterm.is)
    (goes_subterm d ps set lines drop rest sets after reduced after_is)
