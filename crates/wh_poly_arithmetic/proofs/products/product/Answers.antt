-- The sides change places.
use Rattle.std.proofs.Common.{◌≡◌, subst, ◌∙◌}
use Rattle.wh_poly.specs.Arithmetic.{multiply}
use Rattle.wh_poly.specs.Limits.{Exceeds}
use Rattle.wh_poly.specs.Excesses.{ExceedsAs}
use Rattle.wh_poly.specs.Erase.{poly}
use Rattle.wh_poly.proofs.FaultLaws.{ok_so, because_so}
use Rattle.wh_poly_arithmetic.proofs.CommuteLaws.{multiply_commutes}
use Rattle.wh_poly_arithmetic.proofs.products.product.Goals as goal

pub returns-then-as_slice-clause-ok : goal.returns-then-as_slice-clause-ok
returns-then-as_slice-clause-ok c =
    let p = poly c.args.a.now in
    let q = poly c.args.b.now in
    ok_so c.product_by_rows.result (λ r. (poly r ≡ multiply q p) × (Exceeds (poly r) → ⊥)) (λ r. (poly r ≡ multiply p q) × (Exceeds (poly r) → ⊥))
    (λ r h. (h.0 ∙ multiply_commutes q p c.requires.right c.requires.left, h.1)) c.product_by_rows.ensures.ok

pub returns-then-as_slice-clause-fault : goal.returns-then-as_slice-clause-fault
returns-then-as_slice-clause-fault c =
    let p = poly c.args.a.now in
    let q = poly c.args.b.now in
    because_so c.product_by_rows.result (λ e. ExceedsAs e (multiply q p)) (λ e. ExceedsAs e (multiply p q))
    (λ e h. subst (ExceedsAs e) (multiply_commutes q p c.requires.right c.requires.left) h) c.product_by_rows.ensures.fault
