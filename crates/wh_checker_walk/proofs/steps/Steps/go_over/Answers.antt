-- The steps that wait, from the last term on.
use Rattle.std.proofs.Common.{◌≡◌, ◌+◌, List, length, Err, refl, ap, subst, subst₂, arith}
use Rattle.wh_terms.specs.Erase.{tm, rewrite_rules}
use Rattle.wh_terms.specs.declared.path.Step.{Step}
use Rattle.wh_step.specs.Replay.{Replays}
use Rattle.wh_step.specs.Replaying.{Replayed}
use Rattle.wh_step.specs.Reducts.{FailsAt, TooBigAt}
use Rattle.wh_system.specs.SystemView.{system_data}
use Rattle.wh_checker_walk.proofs.StepsOn.{at_step, steps_gone_over, step_fails, step_too_big}
use Rattle.wh_checker_walk.proofs.steps.Steps.go_over.Goals as goal

pub replay-requires-clause-fits : goal.replay-requires-clause-fits
replay-requires-clause-fits c = (at_step (system_data c.args.system.now) c.args.self.now c.is_well_made.ensures.rules c.requires).fits

pub replay-requires-clause-shut : goal.replay-requires-clause-shut
replay-requires-clause-shut c = (at_step (system_data c.args.system.now) c.args.self.now c.is_well_made.ensures.rules c.requires).shut

pub replay-requires-clause-plain : goal.replay-requires-clause-plain
replay-requires-clause-plain c = (at_step (system_data c.args.system.now) c.args.self.now c.is_well_made.ensures.rules c.requires).plain

pub replay-requires-clause-counted : goal.replay-requires-clause-counted
replay-requires-clause-counted c =
    let few = (at_step (system_data c.args.system.now) c.args.self.now c.is_well_made.ensures.rules c.requires).few in
    let same = ap (λ (l : List Step). length l) c.deref.ensures.value in
    omega (arith, few, same)

pub returns-in-Ok : goal.returns-in-Ok
returns-in-Ok c =
    let k = c.args.self.now in
    let told = subst (Replayed (rewrite_rules c.rules.result.now) c.deref.result.now (tm k.last)) c.in-Ok.is c.in_ok-outcome.ensures in
    let leads = subst₂ (λ rules steps. Replays rules steps (tm k.last) (tm c.in-Ok.last)) c.rules.ensures c.deref.ensures.value told in
    let long : c.len.result ≡ length k.waiting.items = omega (arith, c.len.ensures, k.waiting.ok.0) in
    let after = record k { last = c.in-Ok.last; taken = k.taken + c.len.result; waiting = c.new.result } in
    (steps_gone_over (system_data c.args.system.now) k after refl refl (ap (λ n. k.taken + n) long) c.new.ensures.items leads, c.new.ensures.items)

pub returns-in-Fails : goal.returns-in-Fails
returns-in-Fails c =
    let k = c.args.self.now in
    let i = c.in-Fails.index in
    let told = subst (λ e. Replayed (rewrite_rules c.rules.result.now) c.deref.result.now (tm k.last) (Err e)) c.in-Fails.is
    (subst (Replayed (rewrite_rules c.rules.result.now) c.deref.result.now (tm k.last)) c.in-Err.is c.in_ok-outcome.ensures) in
    step_fails (system_data c.args.system.now) k i (k.taken + i) refl
    (subst₂ (λ rules steps. FailsAt rules steps (tm k.last) i) c.rules.ensures c.deref.ensures.value told)

pub returns-in-TooBig : goal.returns-in-TooBig
returns-in-TooBig c =
    let k = c.args.self.now in
    let i = c.in-TooBig.index in
    let told = subst (λ e. Replayed (rewrite_rules c.rules.result.now) c.deref.result.now (tm k.last) (Err e)) c.in-TooBig.is
    (subst (Replayed (rewrite_rules c.rules.result.now) c.deref.result.now (tm k.last)) c.in-Err.is c.in_ok-outcome.ensures) in
    step_too_big (system_data c.args.system.now) k i (k.taken + i) refl
    (subst₂ (λ rules steps. TooBigAt rules steps (tm k.last) i) c.rules.ensures c.deref.ensures.value told)
