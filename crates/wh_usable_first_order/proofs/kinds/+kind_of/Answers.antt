use Rattle.std.proofs.Common.{◌≡◌, [], ap, sym, subst}
use Rattle.wh_types.specs.Ty.{◌⇒◌}
use Rattle.wh_terms.specs.Erase.{declared_metas, symbols, tm}
use Rattle.wh_terms.specs.Tree.{Tm, app}
use Rattle.wh_terms.specs.Typing.{Typed}
use Rattle.wh_terms.proofs.TypeWalk.{function_of_app}
use Rattle.wh_usable_first_order.specs.FirstOrder.{IsFlatTree}
use Rattle.wh_usable_first_order.proofs.kinds.+kind_of.Goals as goal

pub returns-in_ok-kind_of-in-App : goal.returns-in_ok-kind_of-in-App
returns-in_ok-kind_of-in-App t c a typed flat =
    let S = symbols c.args.signature.now in
    let M = declared_metas c.args.metas.now in
    let is : tm c.args.term.now ≡ app (tm c.in-App.function.value) (tm c.in-App.field-1.value) = ap tm c.in-App.is in
    let (b, front, last) = function_of_app (subst (λ (u : Tm). Typed S M [] u a) is typed) in
    let plain = (subst (IsFlatTree S M) is flat).0 in
    let read = sym (ap tm c.deref.ensures) in
    c.behind_one.ensures b a (c.in_ok-kind_of-in-App.ensures (b ⇒ a) (subst (λ (u : Tm). Typed S M [] u (b ⇒ a)) read front) (subst (IsFlatTree S M) read plain))
