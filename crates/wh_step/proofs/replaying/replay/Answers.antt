use Rattle.std.proofs.Common.{subst}
use Rattle.wh_terms.specs.Erase.{tm, rewrite_rules}
use Rattle.wh_step.specs.Stepping.{Takes, TakesTo}
use Rattle.wh_step.proofs.ReplayLemmas.{replays_next, step_shut, step_term}
use Rattle.wh_step.proofs.replaying.replay.Goals as goal

pub loop-i-preserved : goal.loop-i-preserved
loop-i-preserved c =
    let (S, made) = c.requires.well_made in
    let rules = rewrite_rules c.args.rules.now in
    let s = c.index-steps-i.result in
    let here = tm c.loop-i.here in
    let next = tm c.take_step.new.term in
    let (before, fits, shut, plain, sized) = c.loop-i.invariant in
    let taken : TakesTo rules s here next c.in-Taken.next = subst (Takes rules s here next) c.in-Taken.is c.in_ok-next.ensures.ok in (
      replays_next rules c.args.steps.now c.loop-i.i s (tm c.args.term.now) here next c.loop-i-test.true c.index-steps-i.is before taken.step taken.fits,
      taken.fits,
      step_shut S made s taken.step shut,
      step_term S made s taken.step plain,
      taken.sized,
    )
