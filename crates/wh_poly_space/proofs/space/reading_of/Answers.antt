use Rattle.std.proofs.Common.{◌≡◌, ◌+◌, List, drop, get_or, ap, sym, subst, ◌∙◌}
use Rattle.std.proofs.lemmas.List.{get_or_default}
use Rattle.std.proofs.lemmas.List.Elements.{All-get_or}
use Rattle.wh_types.specs.Erase.{tys}
use Rattle.wh_poly.specs.Arithmetic.{followed_by}
use Rattle.wh_poly.specs.Erase.{atoms, monomials, sum_of}
use Rattle.wh_poly.specs.declared.polynomial.Monomial.{out-roll-Monomial}
use Rattle.wh_poly.proofs.Walks.{drop_next}
use Rattle.wh_poly_space.specs.Coefficients.{HasCoefficients}
use Rattle.wh_poly_space.specs.Spots.{IsSpot, AreAllSpots, ArePlaces}
use Rattle.wh_poly_space.specs.declared.space.Spot.{Spot}
use Rattle.wh_poly_space.specs.declared.space.Spot.TheVariants.{Constant}
use Rattle.wh_poly_space.specs.declared.places.Place.{Place}
use Rattle.wh_poly_space.proofs.PlaceLemmas.{spot_below}
use Rattle.wh_poly_space.proofs.PickLemmas.{picked, chosen_by, picked_takes, picked_passes, picked_ends, picked_coefficients}
use Rattle.wh_poly_space.proofs.space.reading_of.Goals as goal
use Rattle.wh_poly_space.proofs.space.reading_of.Goals.{then-coefficient-gt0+in_ok-atoms+in_ok-push, else-coefficient-gt0}

pub place_of-requires : goal.place_of-requires
place_of-requires c =
    let Γ = tys c.args.scope.now in
    let spots = c.deref-spot-items.result.now in
    let places = subst (λ (l : List Place). ArePlaces Γ l) (sym c.deref.ensures.value) c.in_ok-places.ensures in
    let all = subst (λ (l : List Spot). AreAllSpots Γ l) (sym c.deref-spot-items.ensures.value) c.in_ok-spots.ensures in
    spot_below Γ _ places.0 (get_or spots c.loop-spot.spot-index Constant) (All-get_or (IsSpot Γ) spots c.loop-spot.spot-index Constant c.loop-spot-test.true all.are)

pub factors_at-requires-clause-spot : goal.factors_at-requires-clause-spot
factors_at-requires-clause-spot c =
    let Γ = tys c.args.scope.now in
    let spots = c.deref-spot-items.result.now in
    let all = subst (λ (l : List Spot). AreAllSpots Γ l) (sym c.deref-spot-items.ensures.value) c.in_ok-spots.ensures in
    All-get_or (IsSpot Γ) spots c.loop-spot.spot-index Constant c.loop-spot-test.true all.are

pub loop-spot-preserved : goal.loop-spot-preserved
loop-spot-preserved c =
    let Γ = tys c.args.scope.now in
    let chosen = chosen_by Γ c.args.coefficients.now in
    let spots = c.deref-spot-items.result.now in
    let i = c.loop-spot.spot-index in
    let s = get_or spots i Constant in
    let whole = picked Γ chosen spots in
    let out = monomials c.loop-spot.reading in
    let next = drop_next spots i s c.loop-spot-test.true (get_or_default spots i Constant s c.loop-spot-test.true) in
    let before = subst (λ (l : List Spot). followed_by (sum_of out) (picked Γ chosen l) ≡ whole) next c.loop-spot.invariant in
    let places = subst (λ (l : List Place). ArePlaces Γ l) (sym c.deref.ensures.value) c.in_ok-places.ensures in
    let coefficient = c.coefficient_at-coefficient.ensures _ (c.place_of.ensures Γ places) in
    elim c.if-coefficient-gt0.branch [
      | then-coefficient-gt0+in_ok-atoms+in_ok-push w ↦
          subst (λ p. followed_by (sum_of (monomials p)) (picked Γ chosen (drop (i + 1) spots)) ≡ whole) (sym w.reading-is)
          (picked_takes Γ chosen whole out s (drop (i + 1) spots) before (monomials w.push.new.self) _ c.coefficient_at-coefficient.result coefficient w.if-coefficient-gt0.true
          w.in_ok-push.ensures.ok (ap (λ r. r.coefficient) (out-roll-Monomial _) ∙ w.from.ensures) (ap (λ r. atoms r.atoms) (out-roll-Monomial _) ∙ w.in_ok-atoms.ensures))
      | else-coefficient-gt0 w ↦
          subst (λ p. followed_by (sum_of (monomials p)) (picked Γ chosen (drop (i + 1) spots)) ≡ whole) (sym w.reading-is)
          (picked_passes Γ chosen whole out s (drop (i + 1) spots) before c.coefficient_at-coefficient.result coefficient w.if-coefficient-gt0.false)
    ]

pub returns : goal.returns
returns c =
    let Γ = tys c.args.scope.now in
    let cs = c.args.coefficients.now in
    let spots = c.deref-spot-items.result.now in
    let all = subst (λ (l : List Spot). AreAllSpots Γ l) (sym c.deref-spot-items.ensures.value) c.in_ok-spots.ensures in
    subst (HasCoefficients Γ cs) (sym (picked_ends Γ (chosen_by Γ cs) (picked Γ (chosen_by Γ cs) spots) c.loop-spot.reading spots c.loop-spot.spot-index c.loop-spot-test.false c.loop-spot.invariant))
    (picked_coefficients Γ cs spots all)
