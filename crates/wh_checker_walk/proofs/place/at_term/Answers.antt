-- The steps come next.
use Rattle.std.proofs.Common.{sym, subst}
use Rattle.wh_system.specs.SystemView.{system_data}
use Rattle.wh_text.specs.Erase.{rtm}
use Rattle.wh_cert.specs.Items.{no_head}
use Rattle.wh_checker_walk.specs.Walking.{Leads, HasNothing, AtSteps, IsRefused}
use Rattle.wh_checker_walk.proofs.Passing.{or_on}
use Rattle.wh_checker_walk.proofs.place.at_term.Goals as goal

pub returns-in_err-steps : goal.returns-in_err-steps
returns-in_err-steps c = λ ps.
    or_on c.from_residual.result c.in_err-steps.field-0.0 _ _ _
    (λ f. Leads HasNothing (no_head (rtm c.args.raw.now)) (IsRefused (system_data c.args.system.now) f)) c.from_residual.ensures.1
    c.in_err-steps.ensures (λ f h. h)

pub returns : goal.returns
returns c = λ ps.
    subst (λ k. Leads HasNothing (no_head (rtm c.args.raw.now)) (AtSteps (system_data c.args.system.now) k)) (sym c.in_ok-kept.ensures.ok)
    c.in_ok-steps.ensures
