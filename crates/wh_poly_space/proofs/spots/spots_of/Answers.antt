use Rattle.std.proofs.Common.{◌++◌, ◌∷◌, [], List, ℕ, map, ap, ap₂, ◌∙◌}
use Rattle.std.proofs.lemmas.List.Elements.{All-same}
use Rattle.wh_types.specs.Erase.{tys}
use Rattle.wh_poly_space.specs.Spots.{IsSpot, factors_at, rows_of}
use Rattle.wh_poly_space.specs.declared.space.Spot.{Spot}
use Rattle.wh_poly_space.specs.declared.space.Spot.TheVariants.{Constant, One}
use Rattle.wh_poly_space.proofs.SpotLemmas.{spots_made, spots_are, space_of_spots}
use Rattle.wh_poly_space.proofs.spots.spots_of.Goals as goal

pub returns-clause-spots : goal.returns-clause-spots
returns-clause-spots c =
    let Γ = tys c.args.scope.now in
    let made = spots_made Γ c.in_ok-variables.variables.sorts.items c.in_ok-variables.variables.functional.items _ _ _ _ c.in_ok-variables.ensures.sorts c.in_ok-variables.ensures.functional (c.in_ok-push.ensures.items ∙ ap (λ (l : List Spot). l ++ Constant ∷ []) c.new-spots.ensures.items) (c.in_ok-add_alone.ensures ∙ ap (λ (l : List ℕ). c.push.new.self.items ++ map One l) c.deref.ensures.value)
    (c.in_ok-add_alone-2.ensures ∙ ap (λ (l : List ℕ). c.add_alone.new.spots.items ++ map One l) c.deref-2.ensures.value)
    (c.in_ok-add_rows.ensures ∙ ap₂ (λ (l m : List ℕ). c.add_alone-2.new.spots.items ++ rows_of l m) c.deref-3.ensures.value c.deref-4.ensures.value) in
    All-same (IsSpot Γ) _ _ made (spots_are Γ)

pub returns-clause-space : goal.returns-clause-space
returns-clause-space c =
    let Γ = tys c.args.scope.now in
    let made = spots_made Γ c.in_ok-variables.variables.sorts.items c.in_ok-variables.variables.functional.items _ _ _ _ c.in_ok-variables.ensures.sorts c.in_ok-variables.ensures.functional (c.in_ok-push.ensures.items ∙ ap (λ (l : List Spot). l ++ Constant ∷ []) c.new-spots.ensures.items) (c.in_ok-add_alone.ensures ∙ ap (λ (l : List ℕ). c.push.new.self.items ++ map One l) c.deref.ensures.value)
    (c.in_ok-add_alone-2.ensures ∙ ap (λ (l : List ℕ). c.add_alone.new.spots.items ++ map One l) c.deref-2.ensures.value)
    (c.in_ok-add_rows.ensures ∙ ap₂ (λ (l m : List ℕ). c.add_alone-2.new.spots.items ++ rows_of l m) c.deref-3.ensures.value c.deref-4.ensures.value) in
    ap (map (factors_at Γ)) made ∙ space_of_spots Γ
