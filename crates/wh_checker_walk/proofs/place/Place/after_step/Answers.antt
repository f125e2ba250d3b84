-- A step behind steps, or what it leads to elsewhere.
use Rattle.std.proofs.Common.{sym, subst}
use Rattle.wh_system.specs.SystemView.{system_data}
use Rattle.wh_pairs.specs.Views.{pairs_data}
use Rattle.wh_cert.specs.Items.{step}
use Rattle.wh_checker_walk.specs.Walking.{CanCome, AtSteps}
use Rattle.wh_checker_walk.specs.Standing.{Stand}
use Rattle.wh_checker_walk.proofs.Places.{Tells, named_tells}
use Rattle.wh_checker_walk.proofs.place.Place.after_step.Goals as goal

pub at_step-requires : goal.at_step-requires
at_step-requires c =
    subst (λ p. CanCome (Stand (system_data c.args.system.now) (pairs_data c.args.pairs.now) p) (step c.args.next))
    c.in-Steps.is c.requires.come

pub returns-in-Steps : goal.returns-in-Steps
returns-in-Steps c =
    let d = system_data c.args.system.now in
    let ps = pairs_data c.args.pairs.now in
    let i = step c.args.next in
    subst (λ p. Tells d ps p i c.named.result) (sym c.in-Steps.is)
    (named_tells d ps (AtSteps d c.in-Steps.steps.value) i c.at_step.result c.named.result c.named.ensures (c.at_step.ensures ps))
