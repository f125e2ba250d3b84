-- One step more waits, and may be gone over with the others.
use Rattle.std.proofs.Common.{refl}
use Rattle.wh_system.specs.SystemView.{system_data}
use Rattle.wh_cert.specs.Items.{step}
use Rattle.wh_checker_walk.specs.Walking.{AtSteps, IsRefused}
use Rattle.wh_checker_walk.proofs.Passing.{or_more, leads_then}
use Rattle.wh_checker_walk.proofs.StepsOn.{steps_pushed}
use Rattle.wh_checker_walk.proofs.steps.Steps.take.Goals as goal

pub returns-then-len-lt-MOST_WAITING : goal.returns-then-len-lt-MOST_WAITING
returns-then-len-lt-MOST_WAITING c =
    steps_pushed (system_data c.args.system.now) c.args.self.now (record c.args.self.now { waiting = c.push.new.self }) c.args.next refl refl refl refl
    c.in_ok-push.ensures.items

pub go_over-requires : goal.go_over-requires
go_over-requires c =
    let (cert, rest, is, stand) = c.requires in
    let on = steps_pushed (system_data c.args.system.now) c.args.self.now (record c.args.self.now { waiting = c.push.new.self }) c.args.next refl refl refl refl
    c.in_ok-push.ensures.items in
    (cert, rest, is, on cert rest is stand)

pub returns : goal.returns
returns c =
    let d = system_data c.args.system.now in
    let i = step c.args.next in
    let on = steps_pushed d c.args.self.now (record c.args.self.now { waiting = c.push.new.self }) c.args.next refl refl refl refl
    c.in_ok-push.ensures.items in
    or_more c.go_over.result _ _ _ _ c.go_over.ensures
    (λ x (stays, empty). leads_then (AtSteps d c.args.self.now) _ (AtSteps d c.go_over.new.self) i on stays)
    (λ f stays. leads_then (AtSteps d c.args.self.now) _ (IsRefused d f) i on stays)
