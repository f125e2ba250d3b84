-- The step leads on in each certificate for which the walk stands.
use Rattle.std.proofs.Common.{sym, subst}
use Rattle.wh_system.specs.SystemView.{system_data}
use Rattle.wh_pairs.specs.Views.{pairs_data}
use Rattle.wh_cert.specs.Items.{step}
use Rattle.wh_checker_walk.specs.Walking.{CanCome}
use Rattle.wh_checker_walk.specs.Standing.{Stand}
use Rattle.wh_checker_walk.proofs.Places.{Tells, can_come, told_there, where_ok}
use Rattle.wh_checker_walk.proofs.walk.Walk.take_step.Goals as goal

pub after_step-told-requires-clause-come : goal.after_step-told-requires-clause-come
after_step-told-requires-clause-come c =
    let d = system_data c.args.system.now in
    let ps = pairs_data c.args.pairs.now in
    let i = step c.args.next in
    subst (λ p. CanCome (Stand d ps p) i) (sym c.replace-place.ensures.value) (can_come d ps c.args.self.now i c.requires.next)

pub returns : goal.returns
returns c =
    let d = system_data c.args.system.now in
    let ps = pairs_data c.args.pairs.now in
    let i = step c.args.next in
    where_ok c.go_to.result _ _ c.go_to.ensures (told_there d ps c.args.self.now c.go_to.new.self i c.after_step-told.result
    (subst (λ p. Tells d ps p i c.after_step-told.result) c.replace-place.ensures.value c.after_step-told.ensures))
