-- The sides of rules and of pairs have their polynomials as normal forms.
use Rattle.std.proofs.Common.{List, [], length, refl, Bool, true, false}
use Rattle.wh_types.specs.Ty.{Ty}
use Rattle.wh_terms.specs.Tree.{Tm, tms_of}
use Rattle.wh_terms.specs.Sight.{NoFree}
use Rattle.wh_terms.specs.Typing.{Symbols, Declared, Typed}
use Rattle.wh_terms.specs.Rules.{RewriteRule}
use Rattle.wh_pairs.specs.PairData.{PairData}
use Rattle.wh_hopoly.specs.Evaluation.{Interpretation}
use Rattle.wh_polycheck.specs.Sides.{types_of_metas, side_polynomial, Interprets, IsNormOfSide}
use Rattle.wh_polycheck.specs.Marks.{HasMarkedSides, IsNormOfPairSide}
use Rattle.wh_polycheck.specs.Readings.{ReadingsData}
use Rattle.wh_polycheck.specs.Covering.{pair_run}
use Rattle.wh_polycheck.proofs.MarkedSides.{marked_typed}
use Rattle.wh_polycheck.proofs.SideTypes.{side_typed}

-- a well-typed side has its polynomial as its normal form
pub side_has_norm : (S : Symbols) (M : List Declared) (symbols : List Interpretation) (t : Tm) (a : Ty) → Interprets S symbols
    → Typed S M [] t a → NoFree t → IsNormOfSide symbols M t (side_polynomial symbols M t)
side_has_norm S M symbols t a i p f = ((side_typed S M symbols i (length (types_of_metas M)) refl p f).0, refl)

-- and so have the sides of a pair
pub pair_side_has_norm : (S : Symbols) (rules : List RewriteRule) (R : ReadingsData) (p : PairData) (right : Bool)
    → Interprets S R.symbols → HasMarkedSides S rules R.marks p
    → IsNormOfPairSide S rules R.symbols R.marks p right (pair_run S rules R p right).result
pair_side_has_norm S rules R p false i h =
    (marked_typed S rules R.symbols R.marks i p.metas p.left_fun (tms_of p.left) h.left_marked h.left_typed h.left_closed, refl)
pair_side_has_norm S rules R p true i h =
    (marked_typed S rules R.symbols R.marks i p.metas p.right_fun (tms_of p.right) h.right_marked h.right_typed h.right_closed, refl)
