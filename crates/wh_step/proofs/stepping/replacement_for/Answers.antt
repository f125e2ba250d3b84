-- The place is found first, then the step at its root; its result is measured before it is built.
use Rattle.std.proofs.Common.{◌≡◌, ap, sym, ◌∙◌, Some, None, subst}
use Rattle.wh_terms.specs.Tree.{Tm}
use Rattle.wh_terms.specs.Measures.{Fits, size}
use Rattle.wh_terms.specs.Erase.{tm, rewrite_rules}
use Rattle.wh_step.specs.Roots.{RootStep, put_at}
use Rattle.wh_step.specs.Contracta.{result_of}
use Rattle.wh_step.specs.Context.{NewSize}
use Rattle.wh_step.proofs.RedexLemmas.{Tells}
use Rattle.wh_step.proofs.PlaceLemmas.{plain_part, plain_whole, step_there, no_step_nowhere, no_step_there}
use Rattle.wh_step.proofs.stepping.replacement_for.Goals as goal

pub returns-in_default : goal.returns-in_default
returns-in_default c =
    let (S, made) = c.requires.well_made in
    no_step_nowhere S made c.args.step.now.rule c.args.step.now.path (tm c.args.term.now) (sym c.in_default.ensures)

pub root_step-requires-clause-plain : goal.root_step-requires-clause-plain
root_step-requires-clause-plain c =
    let t = tm c.args.term.now in
    let plain = plain_whole t c.requires.fits c.requires.shut c.requires.plain in
    plain_part c.args.step.now.path t (tm c.in-Some.redex.now) (sym c.in-Some.ensures) plain

pub returns-in_default-2 : goal.returns-in_default-2
returns-in_default-2 c =
    let (S, made) = c.requires.well_made in
    let t = tm c.args.term.now in
    let r = tm c.in-Some.redex.now in
    let rule = c.args.step.now.rule in
    let none : (v : Tm) → RootStep (rewrite_rules c.args.rules.now) rule r v → ⊥ =
    subst (λ o. Tells o (RootStep (rewrite_rules c.args.rules.now) rule r)) c.in_default-2.is c.in_ok-contractum.ensures in
    no_step_there S made rule c.args.step.now.path t r (sym c.in-Some.ensures) none

pub returns-in-Some-3 : goal.returns-in-Some-3
returns-in-Some-3 c =
    let (S, made) = c.requires.well_made in
    let t = tm c.args.term.now in
    let r = tm c.in-Some.redex.now in
    let rule = c.args.step.now.rule in
    let path = c.args.step.now.path in
    let v = result_of c.in-Some-2.contractum in
    let slice = c.as_slice-path.result.now in
    let w = tm c.in_ok-build-in-Some-3.field-0 in
    let same : slice ≡ path = c.as_slice-path.ensures.steps in
    let built : w ≡ v = c.in_ok-build-in-Some-3.ensures in
    let whole : put_at slice v t ≡ put_at path w t = ap (λ p. put_at p v t) same ∙ ap (λ s. put_at path s t) (sym built) in
    let found : Tells (Some c.in-Some-2.contractum) (RootStep (rewrite_rules c.args.rules.now) rule r) =
    subst (λ o. Tells o (RootStep (rewrite_rules c.args.rules.now) rule r)) c.in-Some-2.is c.in_ok-contractum.ensures in
    let told : NewSize (put_at slice v t) (Some c.in-Some-3.total) =
    subst (NewSize (put_at slice v t)) c.in-Some-3.is c.in_ok-total.ensures in
    let put : put_at path w t ≡ put_at path v t = ap (λ s. put_at path s t) built in
    record {
      step = step_there S made rule path t r v (put_at path w t) c.requires.shut c.requires.plain (sym c.in-Some.ensures) found.1 put;
      fits = subst Fits whole told.0;
      sized = told.1 ∙ ap size whole;
    }

pub returns : goal.returns
returns c =
    let (S, made) = c.requires.well_made in
    let t = tm c.args.term.now in
    let r = tm c.in-Some.redex.now in
    let rule = c.args.step.now.rule in
    let path = c.args.step.now.path in
    let v = result_of c.in-Some-2.contractum in
    let slice = c.as_slice-path.result.now in
    let same : slice ≡ path = c.as_slice-path.ensures.steps in
    let found : Tells (Some c.in-Some-2.contractum) (RootStep (rewrite_rules c.args.rules.now) rule r) =
    subst (λ o. Tells o (RootStep (rewrite_rules c.args.rules.now) rule r)) c.in-Some-2.is c.in_ok-contractum.ensures in
    let told : NewSize (put_at slice v t) None = subst (NewSize (put_at slice v t)) c.in-None.is c.in_ok-total.ensures in
    let put : put_at slice v t ≡ put_at path v t = ap (λ p. put_at p v t) same in (
      put_at slice v t,
      step_there S made rule path t r v (put_at slice v t) c.requires.shut c.requires.plain (sym c.in-Some.ensures) found.1 put,
      told,
    )
