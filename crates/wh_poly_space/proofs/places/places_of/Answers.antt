use Rattle.std.proofs.Common.{◌+◌, ◌≡◌, ◌<◌, suc, length, ap, sym, subst, ◌∙◌, arith}
use Rattle.std.proofs.lemmas.List.{length-map}
use Rattle.wh_types.specs.Erase.{ty, tys}
use Rattle.wh_poly_space.specs.Space.{is_sort}
use Rattle.wh_poly_space.specs.Spots.{IsPlace, IsWalk}
use Rattle.wh_poly_space.proofs.PushLemmas.{each_push}
use Rattle.wh_poly_space.proofs.CountLemmas.{pushed_one}
use Rattle.wh_poly_space.proofs.SpaceLemmas.{type_there}
use Rattle.wh_poly_space.proofs.places.places_of.Goals as goal

pub loop-kind-preserved : goal.loop-kind-preserved
loop-kind-preserved c =
    let scope = c.args.scope.now in
    let Γ = tys scope in
    let i = c.loop-kind.kind-index in
    let places = c.loop-kind.places.items in
    let walk = c.loop-kind.invariant.walk in
    let within : i < length Γ = omega (arith, length-map scope ty, c.loop-kind-test.true) in
    let kind = ap is_sort (type_there scope i c.kind-item.result c.loop-kind-test.true c.kind-item.is) in
    let here = c.place_here.ensures Γ i (kind ∙ sym c.is_sort.ensures) walk in
    let next = c.next_walk-walk.ensures Γ i within (kind ∙ sym c.is_sort-in-loop-kind.ensures) (omega (arith, c.len-sorts.ensures, c.in_ok-variables.variables.sorts.ok.0, ap length c.in_ok-variables.ensures.sorts)) walk in
    let e : suc i ≡ i + 1 = omega arith in
    record {
      walk = subst (λ i. IsWalk Γ i c.next_walk-walk.result) e next;
      count = pushed_one places c.push.new.self.items i _ c.in_ok-push.ensures.items c.loop-kind.invariant.count;
      each = each_push (IsPlace Γ) places c.push.new.self.items c.place_here.result c.in_ok-push.ensures.items c.loop-kind.invariant.each
          (subst (λ i. IsPlace Γ i c.place_here.result) (sym c.loop-kind.invariant.count) here);
    }
