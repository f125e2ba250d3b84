-- The place is found first, then the step at its root.
use Rattle.std.proofs.Common.{◌≡◌, ap, sym, ◌∙◌, Some, subst}
use Rattle.wh_terms.specs.Tree.{Tm}
use Rattle.wh_terms.specs.Erase.{tm, rewrite_rules}
use Rattle.wh_step.specs.Roots.{RootStep, put_at}
use Rattle.wh_step.specs.Contracta.{result_of}
use Rattle.wh_step.proofs.RedexLemmas.{Tells}
use Rattle.wh_step.proofs.PlaceLemmas.{plain_part, plain_whole, step_there, no_step_nowhere, no_step_there}
use Rattle.wh_step.proofs.place.step_at.Goals as goal

pub returns-in_default : goal.returns-in_default
returns-in_default c =
    let (S, made) = c.requires.well_made in
    no_step_nowhere S made c.args.rule c.args.path.now (tm c.args.term.now) (sym c.in_default.ensures)

pub root_step-requires-clause-plain : goal.root_step-requires-clause-plain
root_step-requires-clause-plain c =
    let t = tm c.args.term.now in
    plain_part c.args.path.now t (tm c.in-Some.redex.now) (sym c.in-Some.ensures) (plain_whole t c.requires.fits c.requires.shut c.requires.plain)

pub returns-in_ok-replace_at-in-Some-2 : goal.returns-in_ok-replace_at-in-Some-2
returns-in_ok-replace_at-in-Some-2 c =
    let (S, made) = c.requires.well_made in
    let t = tm c.args.term.now in
    let r = tm c.in-Some.redex.now in
    let path = c.args.path.now in
    let found : Tells (Some c.in-Some-2.contractum) (RootStep (rewrite_rules c.args.rules.now) c.args.rule r) =
    subst (λ o. Tells o (RootStep (rewrite_rules c.args.rules.now) c.args.rule r)) c.in-Some-2.is c.in_ok-contractum.ensures in
    let built : tm c.in_ok-value-in-Some-2.value ≡ result_of c.in-Some-2.contractum = c.in_ok-value-in-Some-2.ensures in
    let put : tm c.in_ok-replace_at-in-Some-2.field-0 ≡ put_at c.as_slice.result.now (tm c.in_ok-value-in-Some-2.value) t = c.in_ok-replace_at-in-Some-2.ensures in
    let same : c.as_slice.result.now ≡ path = c.as_slice.ensures.steps in
    step_there S made c.args.rule path t r (result_of c.in-Some-2.contractum) (tm c.in_ok-replace_at-in-Some-2.field-0) c.requires.shut c.requires.plain (sym c.in-Some.ensures) found.1
    (put ∙ ap (λ v. put_at c.as_slice.result.now v t) built ∙ ap (λ p. put_at p (result_of c.in-Some-2.contractum) t) same)

pub returns-in-None : goal.returns-in-None
returns-in-None c =
    let (S, made) = c.requires.well_made in
    let t = tm c.args.term.now in
    let r = tm c.in-Some.redex.now in
    let none : (v : Tm) → RootStep (rewrite_rules c.args.rules.now) c.args.rule r v → ⊥ =
    subst (λ o. Tells o (RootStep (rewrite_rules c.args.rules.now) c.args.rule r)) c.in-None.is c.in_ok-contractum.ensures in
    no_step_there S made c.args.rule c.args.path.now t r (sym c.in-Some.ensures) none
