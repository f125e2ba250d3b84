use Rattle.std.proofs.Common.{◌≡◌, ap, sym, subst, ◌∙◌}
use Rattle.wh_types.specs.Erase.{ty}
use Rattle.wh_types.specs.Ty.{◌⇒◌}
use Rattle.wh_poly.specs.Erase.{poly, list, arguments_of}
use Rattle.wh_poly.specs.Polynomials.{zero_poly}
use Rattle.wh_poly.proofs.Pushes.{arguments_followed_by}
use Rattle.wh_poly_space.specs.Space.{filled}
use Rattle.std.proofs.Common.{cond}
use Rattle.wh_poly_space.specs.Space.{is_sort}
use Rattle.wh_poly_space.proofs.BuildLemmas.{filled_more, filled_ends}
use Rattle.wh_poly_space.proofs.space.filled.Goals as goal

pub loop-here-preserved : goal.loop-here-preserved
loop-here-preserved c =
    let p = poly c.args.sum.now in
    let A = ty c.in-Arrow.first.value in
    let B = ty c.in-Arrow.rest.value in
    let whole = filled p (ty c.args.kind.now) in
    let split : ty c.loop-here.here.now ≡ (A ⇒ B) = ap ty c.in-Arrow.is in
    let rest : ty c.deref-here.result.now ≡ B = ap ty c.deref-here.ensures in
    let asked : c.is_sort.result ≡ is_sort A = c.is_sort.ensures ∙ ap (λ k. is_sort (ty k)) c.deref.ensures in
    let made = c.in_ok-sum_or_zero.ensures ∙ ap (λ b. cond b p zero_poly) asked in
    subst (λ B. arguments_followed_by (arguments_of (list c.push.new.self)) (filled p B) ≡ whole) (sym rest)
    (filled_more p whole (list c.loop-here.args) (list c.push.new.self) c.in_ok-sum_or_zero.field-0 A B c.in_ok-push.ensures.ok made
    (subst (λ T. arguments_followed_by (arguments_of (list c.loop-here.args)) (filled p T) ≡ whole) split c.loop-here.invariant))

pub returns : goal.returns
returns c = filled_ends (poly c.args.sum.now) (filled (poly c.args.sum.now) (ty c.args.kind.now)) c.loop-here.args (ty c.loop-here.here.now) _ (ap ty c.in_default.is) c.loop-here.invariant
