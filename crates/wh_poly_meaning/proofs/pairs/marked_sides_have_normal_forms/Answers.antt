-- The sides are typed with the marks behind the symbols.
use Rattle.wh_poly_meaning.proofs.SideNorms.{pair_side_has_norm}
use Rattle.wh_poly_meaning.proofs.pairs.marked_sides_have_normal_forms.Goals as goal

pub returns : goal.returns
returns c S rules R p right i h = pair_side_has_norm S rules R p right i h
