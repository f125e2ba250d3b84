-- A step, or the place of the instance.
use Rattle.std.proofs.Common.{ap, sym, ◌∙◌, subst}
use Rattle.wh_types.specs.Outcome.{MatchOr}
use Rattle.wh_system.specs.SystemView.{system_data}
use Rattle.wh_cert.specs.Items.{step, at}
use Rattle.wh_cert.specs.Said.{said_item}
use Rattle.wh_checker_walk.specs.Walking.{Leads, CanCome, AtSteps, AtPuts, IsRefused}
use Rattle.wh_checker_walk.specs.Standing.{Stand}
use Rattle.wh_checker_walk.proofs.Passing.{or_on}
use Rattle.wh_checker_walk.proofs.NextItems.{no_other_step}
use Rattle.wh_checker_walk.proofs.place.at_steps.Goals as goal

pub at_step-requires : goal.at_step-requires
at_step-requires c =
    let P = CanCome (AtSteps (system_data c.args.system.now) c.args.steps.value) in
    subst (λ s. P (step s)) (sym c.in_ok-copy-in-Step.ensures) (subst (λ i. P (said_item i)) c.in-Step.is c.requires)

pub returns-in_ok-copy-in-Step : goal.returns-in_ok-copy-in-Step
returns-in_ok-copy-in-Step c = λ ps.
    let d = system_data c.args.system.now in
    let P = AtSteps d c.args.steps.value in
    subst (λ i. MatchOr c.at_step.result (λ new. Leads P i (Stand d ps new)) (λ f. Leads P i (IsRefused d f)))
    (ap step c.in_ok-copy-in-Step.ensures ∙ ap said_item (sym c.in-Step.is)) (c.at_step.ensures ps)

pub new-requires : goal.new-requires
new-requires c = subst (λ i. CanCome (AtSteps (system_data c.args.system.now) c.args.steps.value) (said_item i)) c.in-At.is c.requires

pub returns-in_err-puts-in-At : goal.returns-in_err-puts-in-At
returns-in_err-puts-in-At c = λ ps.
    let d = system_data c.args.system.now in
    let P = AtSteps d c.args.steps.value in
    or_on c.from_residual-in_err-puts-in-At.result c.in_err-puts-in-At.field-0.0 _ _ _ (λ f. Leads P (said_item c.args.item.now) (IsRefused d f))
    c.from_residual-in_err-puts-in-At.ensures.1 c.in_err-puts-in-At.ensures
    (λ f h. subst (λ i. Leads P (said_item i) (IsRefused d f)) (sym c.in-At.is) h)

pub returns-in_ok-kept-in-At : goal.returns-in_ok-kept-in-At
returns-in_ok-kept-in-At c = λ ps.
    let d = system_data c.args.system.now in
    subst (λ i. Leads (AtSteps d c.args.steps.value) (said_item i) (AtPuts d c.in_ok-kept-in-At.kept.value)) (sym c.in-At.is)
    (subst (λ k. Leads (AtSteps d c.args.steps.value) (at c.in-At.path) (AtPuts d k)) (sym c.in_ok-kept-in-At.ensures.ok)
    c.in_ok-puts-in-At.ensures)

pub unreachable-requires : goal.unreachable-requires
unreachable-requires c =
    no_other_step (system_data c.args.system.now) c.args.steps.value c.args.item.now c.in_default.not-Step c.in_default.not-At c.requires
