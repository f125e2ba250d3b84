-- It begins a certificate of one of the two kinds.
use Rattle.std.proofs.Common.{sym, subst}
use Rattle.wh_system.specs.SystemView.{system_data}
use Rattle.wh_pairs.specs.Views.{pairs_data}
use Rattle.wh_text.specs.Erase.{rtm}
use Rattle.wh_cert.specs.Items.{yes_head, no_head}
use Rattle.wh_cert.specs.Said.{said_item}
use Rattle.wh_checker_walk.specs.Walking.{Leads, HasNothing, AtNodes, IsBlamed}
use Rattle.wh_checker_walk.specs.declared.place.Place.TheVariants.{Before}
use Rattle.wh_checker_walk.proofs.Passing.{or_on}
use Rattle.wh_checker_walk.proofs.Places.{Tells, named_tells}
use Rattle.wh_checker_walk.proofs.NextItems.{no_other_first}
use Rattle.wh_checker_walk.proofs.place.first.Goals as goal

pub returns-in_err-nodes-in-YesHead : goal.returns-in_err-nodes-in-YesHead
returns-in_err-nodes-in-YesHead c =
    let d = system_data c.args.system.now in
    let ps = pairs_data c.args.pairs.now in
    or_on c.from_residual.result c.in_err-nodes-in-YesHead.field-0.0 _ _ _
    (λ f. Leads HasNothing (said_item c.args.item.now) (IsBlamed d ps f))
    c.from_residual.ensures.1 (c.in_err-nodes-in-YesHead.ensures c.in-YesHead.version)
    (λ f h. subst (λ i. Leads HasNothing (said_item i) (IsBlamed d ps f)) (sym c.in-YesHead.is)
    (subst (λ r. Leads HasNothing (yes_head c.in-YesHead.version r c.in-YesHead.count) (IsBlamed d ps f)) c.as_slice.ensures h))

pub returns-in_ok-kept-in-YesHead : goal.returns-in_ok-kept-in-YesHead
returns-in_ok-kept-in-YesHead c =
    let d = system_data c.args.system.now in
    let ps = pairs_data c.args.pairs.now in
    subst (λ i. Leads HasNothing (said_item i) (AtNodes d ps c.in_ok-kept-in-YesHead.kept.value)) (sym c.in-YesHead.is)
    (subst (λ k. Leads HasNothing (yes_head c.in-YesHead.version c.in-YesHead.ranks c.in-YesHead.count) (AtNodes d ps k))
    (sym c.in_ok-kept-in-YesHead.ensures.ok)
    (subst (λ r. Leads HasNothing (yes_head c.in-YesHead.version r c.in-YesHead.count) (AtNodes d ps c.in_ok-nodes-in-YesHead.nodes))
    c.as_slice.ensures (c.in_ok-nodes-in-YesHead.ensures c.in-YesHead.version)))

pub returns-in-NoHead : goal.returns-in-NoHead
returns-in-NoHead c =
    let d = system_data c.args.system.now in
    let ps = pairs_data c.args.pairs.now in
    let told = named_tells d ps HasNothing (no_head (rtm c.deref.result.now)) c.at_term.result c.named.result c.named.ensures (c.at_term.ensures ps) in
    subst (λ i. Tells d ps Before (said_item i) c.named.result) (sym c.in-NoHead.is)
    (subst (λ t. Tells d ps Before (no_head (rtm t)) c.named.result) c.deref.ensures told)

pub unreachable-requires : goal.unreachable-requires
unreachable-requires c = no_other_first c.args.item.now c.in_default.not-YesHead c.in_default.not-NoHead c.requires.come
