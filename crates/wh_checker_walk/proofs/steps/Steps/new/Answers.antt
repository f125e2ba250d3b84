-- No step was gone over, and none waits.
use Rattle.std.proofs.Common.{refl}
use Rattle.wh_system.specs.SystemView.{system_data}
use Rattle.wh_text.specs.Erase.{rtm}
use Rattle.wh_cert.specs.Items.{no_head}
use Rattle.wh_no.specs.Faults.{IsTermFault}
use Rattle.wh_checker_walk.specs.Walking.{Leads, HasNothing, IsRefused}
use Rattle.wh_checker_walk.proofs.Passing.{or_on}
use Rattle.wh_checker_walk.proofs.StepsOn.{steps_begun, steps_unbegun}
use Rattle.wh_checker_walk.proofs.steps.Steps.new.Goals as goal

pub returns-in_err-term : goal.returns-in_err-term
returns-in_err-term c =
    let d = system_data c.args.system.now in
    let raw = rtm c.args.raw.now in
    or_on c.from_residual-in_err-term.result c.in_err-term.field-0.0 _ _ (IsTermFault d raw) (λ f. Leads HasNothing (no_head raw) (IsRefused d f))
    c.from_residual-in_err-term.ensures.1 c.in_err-term.ensures (λ f fault. steps_unbegun d raw f fault)

pub returns : goal.returns
returns c =
    steps_begun (system_data c.args.system.now)
    (record { names = c.in_ok-names.names; term = c.in_ok-term.term; last = c.in_ok-last.last; taken = 0; waiting = c.new.result })
    (rtm c.args.raw.now) c.in_ok-names.ensures c.in_ok-term.ensures c.in_ok-last.ensures refl
    c.new.ensures.items
