-- The arguments of both sides of a pair are typed.
use Rattle.std.proofs.Common.{List, [], ◌∷◌, Contains, refl}
use Rattle.wh_terms.specs.Typing.{Symbols}
use Rattle.wh_terms.specs.Rules.{RewriteRule}
use Rattle.wh_pairs.specs.PairData.{PairData}
use Rattle.wh_pairs.proofs.MemberLemmas.{at_head, behind}
use Rattle.wh_poly.specs.Polynomials.{zero_poly}
use Rattle.wh_polycheck.specs.Marks.{Mark}
use Rattle.wh_polycheck.specs.Covering.{HaveTypedSides}
use Rattle.wh_order.specs.TreeSides.{HasTypedCalls}

pub typed_calls : (S : Symbols) (rules : List RewriteRule) (pairs : List PairData) → HaveTypedSides S rules pairs → (p : PairData)
    → Contains pairs p → HasTypedCalls S rules p
typed_calls S rules pairs typed p found =
    let left : Mark = record { symbol = p.left_fun; polynomial = zero_poly } in
    let right : Mark = record { symbol = p.right_fun; polynomial = zero_poly } in
    let sides = typed (left ∷ right ∷ []) p found (left, at_head (right ∷ []) left, refl)
    (right, behind (right ∷ []) left right (at_head [] right), refl) in
    record { left = sides.left_typed; right = sides.right_typed }
