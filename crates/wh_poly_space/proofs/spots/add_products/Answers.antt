use Rattle.std.proofs.Common.{◌≡◌, ◌+◌, suc, ap, sym, subst, refl, ◌∙◌, arith}
use Rattle.std.proofs.lemmas.List.{length-map}
use Rattle.wh_types.specs.Erase.{ty, tys}
use Rattle.wh_poly_space.specs.Space.{is_sort}
use Rattle.wh_poly_space.specs.Spots.{AreSpotsTo}
use Rattle.wh_poly_space.specs.declared.space.Spot.TheVariants.{Two}
use Rattle.wh_poly_space.proofs.OrderLemmas.{spots_push, no_product, row_ends}
use Rattle.wh_poly_space.proofs.SpaceLemmas.{type_there, differ, do_not_differ}
use Rattle.wh_poly_space.proofs.spots.add_products.Goals as goal
use Rattle.wh_poly_space.proofs.spots.add_products.Goals.{then-is_sort+in_ok-push, else-is_sort}

pub loop-y-preserved : goal.loop-y-preserved
loop-y-preserved c =
    let scope = c.args.scope.now in
    let Γ = tys scope in
    let x = c.args.x in
    let y = c.loop-y.y in
    let here = ap is_sort (type_there scope x c.index-scope-x.result c.requires.within c.index-scope-x.is) in
    let there = ap is_sort (type_there scope y c.index-scope-y.result c.loop-y-test.true c.index-scope-y.is) in
    let e : suc y ≡ y + 1 = omega arith in
    subst (λ b. AreSpotsTo Γ (suc x) (suc b) c.if-is_sort.spots.items) e (elim c.if-is_sort.branch [
      | then-is_sort+in_ok-push w ↦
          spots_push Γ (suc x) (suc y) c.loop-y.spots.items c.if-is_sort.spots.items (Two x y) c.loop-y.invariant (ap (λ v. v.items) w.spots-is ∙ w.in_ok-push.ensures.items)
          (omega arith, omega (arith, length-map scope ty, c.loop-y-test.true), differ _ _ _ _ here there c.is_sort.ensures c.is_sort-in-loop-y.ensures w.if-is_sort.true) refl refl
      | else-is_sort w ↦
          subst (AreSpotsTo Γ (suc x) (suc (suc y))) (sym (ap (λ v. v.items) w.spots-is))
          (no_product Γ x y c.loop-y.spots.items (λ spot. spot.2 (do_not_differ _ _ _ _ here there c.is_sort.ensures c.is_sort-in-loop-y.ensures w.if-is_sort.false)) c.loop-y.invariant)
    ])

pub returns : goal.returns
returns c =
    let scope = c.args.scope.now in
    row_ends (tys scope) c.args.x (suc c.loop-y.y) c.loop-y.spots.items (omega (arith, length-map scope ty, c.loop-y-test.false)) c.loop-y.invariant
