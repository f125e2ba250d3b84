-- The side as an expression is typed.
use Rattle.wh_poly_meaning.proofs.SideNorms.{side_has_norm}
use Rattle.wh_poly_meaning.proofs.terms.sides_have_normal_forms.Goals as goal

pub returns : goal.returns
returns c S M symbols t a i p f = side_has_norm S M symbols t a i p f
