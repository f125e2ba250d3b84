-- A step behind steps.
use Rattle.std.proofs.Common.{sym, subst}
use Rattle.wh_system.specs.SystemView.{system_data}
use Rattle.wh_cert.specs.Items.{step}
use Rattle.wh_checker_walk.specs.Walking.{Leads, CanCome, AtSteps, IsRefused}
use Rattle.wh_checker_walk.proofs.Passing.{or_on}
use Rattle.wh_checker_walk.proofs.place.at_step.Goals as goal

pub take-requires : goal.take-requires
take-requires c = subst (λ k. CanCome (AtSteps (system_data c.args.system.now) k) (step c.args.next)) (sym c.deref_mut.ensures.value) c.requires

pub returns-in_err-take : goal.returns-in_err-take
returns-in_err-take c = λ ps.
    let d = system_data c.args.system.now in
    let i = step c.args.next in
    or_on c.from_residual.result c.in_err-take.field-0.0 _ _ _ (λ f. Leads (AtSteps d c.args.steps.value) i (IsRefused d f))
    c.from_residual.ensures.1 c.in_err-take.ensures (λ f h. subst (λ k. Leads (AtSteps d k) i (IsRefused d f)) c.deref_mut.ensures.value h)

pub returns : goal.returns
returns c = λ ps.
    let d = system_data c.args.system.now in
    subst (λ k. Leads (AtSteps d k) (step c.args.next) (AtSteps d c.take.new.self)) c.deref_mut.ensures.value c.in_ok-take.ensures
