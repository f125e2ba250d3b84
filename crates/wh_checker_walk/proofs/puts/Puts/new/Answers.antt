-- All steps are gone over.
use Rattle.std.proofs.Common.{◌∷◌, refl, ap, sym, ◌∙◌, subst}
use Rattle.wh_system.specs.SystemView.{system_data}
use Rattle.wh_cert.specs.Items.{at}
use Rattle.wh_checker_walk.specs.Walking.{Leads, Stays, CanStand, AtSteps, IsRefused}
use Rattle.wh_checker_walk.specs.declared.steps.Steps.{Steps}
use Rattle.wh_checker_walk.proofs.Passing.{or_on}
use Rattle.wh_checker_walk.proofs.PutsOn.{stands, puts_begun, no_step}
use Rattle.wh_checker_walk.proofs.puts.Puts.new.Goals as goal

pub go_over-requires : goal.go_over-requires
go_over-requires c =
    let d = system_data c.args.system.now in
    subst (λ k. CanStand (AtSteps d k)) (sym c.deref_mut.ensures.value) (stands d c.args.steps.value (at c.args.at.now) c.requires)

pub returns-in_err-go_over : goal.returns-in_err-go_over
returns-in_err-go_over c =
    let d = system_data c.args.system.now in
    let P = AtSteps d c.args.steps.value in
    or_on c.from_residual.result c.in_err-go_over.field-0.0 _ _ (λ f. Stays (AtSteps d c.deref_mut.result.now) (IsRefused d f))
    (λ f. Leads P (at c.args.at.now) (IsRefused d f)) c.from_residual.ensures.1 c.in_err-go_over.ensures
    (λ f stays. λ cert rest is stand.
    subst (λ k. Stays (AtSteps d k) (IsRefused d f)) c.deref_mut.ensures.value stays cert (at c.args.at.now ∷ rest) is stand)

pub returns-then-deref-eq0 : goal.returns-then-deref-eq0
returns-then-deref-eq0 c =
    let d = system_data c.args.system.now in
    let on = subst (λ k. Stays (AtSteps d k) (AtSteps d c.go_over.new.self)) c.deref_mut.ensures.value c.in_ok-go_over.ensures.0 in
    no_step d c.args.steps.value c.go_over.new.self c.args.at.now on c.in_ok-go_over.ensures.1
    (ap (λ (s : Steps). s.taken) (sym c.deref.ensures) ∙ c.if-deref-eq0.true)

pub returns : goal.returns
returns c =
    let d = system_data c.args.system.now in
    let on = subst (λ k. Stays (AtSteps d k) (AtSteps d c.go_over.new.self)) c.deref_mut.ensures.value c.in_ok-go_over.ensures.0 in
    puts_begun d c.args.steps.value c.go_over.new.self _ c.args.at.now on c.in_ok-go_over.ensures.1
    (λ none. c.if-deref-eq0.false (ap (λ (s : Steps). s.taken) c.deref.ensures ∙ none)) refl
    (c.in_ok-at.ensures ∙ c.as_slice.ensures.steps) c.new.ensures.items
