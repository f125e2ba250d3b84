-- By the kinds of places.
use Rattle.std.proofs.Common.{sym, subst}
use Rattle.wh_system.specs.SystemView.{system_data}
use Rattle.wh_pairs.specs.Views.{pairs_data}
use Rattle.wh_cert.specs.Said.{said_item}
use Rattle.wh_checker_walk.specs.Walking.{CanCome, Leads, AtSteps, AtPuts, IsBlamed}
use Rattle.wh_checker_walk.specs.Standing.{Stand}
use Rattle.wh_checker_walk.proofs.Places.{Tells, named_tells, no_other_place}
use Rattle.wh_checker_walk.proofs.place.Place.after.Goals as goal

pub first-requires-clause-come : goal.first-requires-clause-come
first-requires-clause-come c =
    subst (λ p. CanCome (Stand (system_data c.args.system.now) (pairs_data c.args.pairs.now) p) (said_item c.args.item.now))
    c.in-Before.is c.requires.come

pub returns-in-Before : goal.returns-in-Before
returns-in-Before c =
    subst (λ p. Tells (system_data c.args.system.now) (pairs_data c.args.pairs.now) p (said_item c.args.item.now) c.first.result)
    (sym c.in-Before.is) c.first.ensures

pub at_nodes-requires-clause-come : goal.at_nodes-requires-clause-come
at_nodes-requires-clause-come c =
    subst (λ p. CanCome (Stand (system_data c.args.system.now) (pairs_data c.args.pairs.now) p) (said_item c.args.item.now))
    c.in-Nodes.is c.requires.come

pub returns-in-Nodes : goal.returns-in-Nodes
returns-in-Nodes c =
    subst (λ p. Tells (system_data c.args.system.now) (pairs_data c.args.pairs.now) p (said_item c.args.item.now) c.at_nodes.result)
    (sym c.in-Nodes.is) c.at_nodes.ensures

pub at_steps-requires : goal.at_steps-requires
at_steps-requires c =
    subst (λ p. CanCome (Stand (system_data c.args.system.now) (pairs_data c.args.pairs.now) p) (said_item c.args.item.now))
    c.in-Steps.is c.requires.come

pub returns-in-Steps : goal.returns-in-Steps
returns-in-Steps c =
    let d = system_data c.args.system.now in
    let ps = pairs_data c.args.pairs.now in
    let i = said_item c.args.item.now in
    subst (λ p. Tells d ps p i c.named.result) (sym c.in-Steps.is)
    (named_tells d ps (AtSteps d c.in-Steps.steps.value) i c.at_steps.result c.named.result c.named.ensures (c.at_steps.ensures ps))

pub at_puts-requires : goal.at_puts-requires
at_puts-requires c =
    subst (λ p. CanCome (Stand (system_data c.args.system.now) (pairs_data c.args.pairs.now) p) (said_item c.args.item.now))
    c.in-Puts.is c.requires.come

pub returns-in-Puts : goal.returns-in-Puts
returns-in-Puts c =
    let d = system_data c.args.system.now in
    let ps = pairs_data c.args.pairs.now in
    let i = said_item c.args.item.now in
    subst (λ p. Tells d ps p i c.named-in-Puts.result) (sym c.in-Puts.is)
    (named_tells d ps (AtPuts d c.in-Puts.puts.value) i c.at_puts.result c.named-in-Puts.result c.named-in-Puts.ensures (c.at_puts.ensures ps))

pub returns-in-Blamed : goal.returns-in-Blamed
returns-in-Blamed c =
    let d = system_data c.args.system.now in
    let ps = pairs_data c.args.pairs.now in
    subst (λ p. Leads (Stand d ps p) (said_item c.args.item.now) (IsBlamed d ps c.in-Blamed.fault)) (sym c.in-Blamed.is)
    (λ cert rest is stand. stand)

pub unreachable-requires : goal.unreachable-requires
unreachable-requires c =
    no_other_place (system_data c.args.system.now) (pairs_data c.args.pairs.now) c.args.self (said_item c.args.item.now)
    c.in_default.not-Before c.in_default.not-Nodes c.in_default.not-Steps c.in_default.not-Puts c.in_default.not-Blamed c.requires.come
