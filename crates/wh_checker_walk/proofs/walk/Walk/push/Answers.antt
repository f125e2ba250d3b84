-- The item leads on in each certificate for which the walk stands.
use Rattle.std.proofs.Common.{sym, subst}
use Rattle.wh_system.specs.SystemView.{system_data}
use Rattle.wh_pairs.specs.Views.{pairs_data}
use Rattle.wh_cert.specs.Said.{said_item}
use Rattle.wh_checker_walk.specs.Walking.{CanCome}
use Rattle.wh_checker_walk.specs.Standing.{Stand}
use Rattle.wh_checker_walk.proofs.Places.{Tells, can_come, told_there, where_ok}
use Rattle.wh_checker_walk.proofs.walk.Walk.push.Goals as goal

pub after-told-requires-clause-come : goal.after-told-requires-clause-come
after-told-requires-clause-come c =
    let d = system_data c.args.system.now in
    let ps = pairs_data c.args.pairs.now in
    let i = said_item c.args.item.now in
    subst (λ p. CanCome (Stand d ps p) i) (sym c.replace-place.ensures.value) (can_come d ps c.args.self.now i c.requires.next)

pub returns : goal.returns
returns c =
    let d = system_data c.args.system.now in
    let ps = pairs_data c.args.pairs.now in
    let i = said_item c.args.item.now in
    where_ok c.go_to.result _ _ c.go_to.ensures (told_there d ps c.args.self.now c.go_to.new.self i c.after-told.result
    (subst (λ p. Tells d ps p i c.after-told.result) c.replace-place.ensures.value c.after-told.ensures))
