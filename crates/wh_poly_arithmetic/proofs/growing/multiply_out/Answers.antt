-- A product of polynomials in order is in order; 1 times a value is that value.
use Rattle.std.proofs.Common.{◌≡◌, ap, sym, subst, ◌∙◌}
use Rattle.wh_poly.specs.Polynomials.{Ordered}
use Rattle.wh_poly.specs.Arithmetic.{multiply}
use Rattle.wh_poly.specs.Excesses.{ExceedsAs}
use Rattle.wh_poly_arithmetic.specs.Growing.{grown}
use Rattle.wh_poly.specs.Erase.{poly}
use Rattle.wh_poly.proofs.FaultLaws.{passed_on}
use Rattle.wh_poly.proofs.OrderedLaws.{ordered_multiply}
use Rattle.wh_poly_arithmetic.proofs.RoomLaws.{times_one}
use Rattle.wh_poly_arithmetic.proofs.growing.multiply_out.Goals as goal

pub returns-in_err-same-clause-fault : goal.returns-in_err-same-clause-fault
returns-in_err-same-clause-fault c =
    let q = poly c.args.value.now in
    let same : multiply (grown c.args.so_far.now) q ≡ q = times_one (grown c.args.so_far.now) q c.requires.right (c.is_one.ensures c.if-is_one.true) in
    passed_on c.tested.result c.from_residual-in_err-same.result c.in_err-same.field-0.0 (λ e. ExceedsAs e (poly c.in_ok-copy.field-0)) (λ e. ExceedsAs e (multiply (grown c.args.so_far.now) q))
    c.from_residual-in_err-same.ensures.1 c.in_err-same.ensures.fault (λ e h. subst (ExceedsAs e) (c.in_ok-copy.ensures ∙ sym same) h)

pub begun-requires-clause-ordered : goal.begun-requires-clause-ordered
begun-requires-clause-ordered c = subst Ordered (sym (c.in_ok-same.ensures.ok.0 ∙ c.in_ok-copy.ensures)) c.requires.right

pub returns-then-is_one-clause-ok : goal.returns-then-is_one-clause-ok
returns-then-is_one-clause-ok c =
    let q = poly c.args.value.now in
    let same : multiply (grown c.args.so_far.now) q ≡ q = times_one (grown c.args.so_far.now) q c.requires.right (c.is_one.ensures c.if-is_one.true) in
    (c.in_ok-so_far.ensures.0 ∙ c.in_ok-same.ensures.ok.0 ∙ c.in_ok-copy.ensures ∙ sym same, c.in_ok-so_far.ensures.1)

pub begun-requires-2-clause-ordered : goal.begun-requires-2-clause-ordered
begun-requires-2-clause-ordered c =
    subst Ordered (sym c.in_ok-whole.ensures.ok.0)
    (ordered_multiply (poly c.in_ok-before.before) (poly c.args.value.now) (subst Ordered (sym (c.in_ok-before.ensures ∙ ap grown c.replace-taken.ensures.value)) c.requires.left) c.requires.right)
