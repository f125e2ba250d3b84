-- What holds of the value of a call, and the sizes of spaces.
use Rattle.std.proofs.Common.{◌≡◌, ℕ, List, [], ◌∷◌, ◌++◌, length, map, Result, Ok, Err, IfOk, refl, ap, ap₂, sym, ◌∙◌}
use Rattle.std.proofs.lemmas.List.{map-append}
use Rattle.wh_types.specs.Ty.{Ty, arguments}
use Rattle.wh_types.specs.Erase.{ty, tys}
use Rattle.wh_types.specs.declared.simple_type.SimpleType.{SimpleType}
use Rattle.wh_reduction_pairs.specs.TaskData.{TaskData}
use Rattle.wh_polycheck.specs.Marks.{marked_types}
use Rattle.wh_poly_guesses.specs.Coefficients.{scopes_of}
use Rattle.wh_poly_space.specs.Space.{space_of}

pub ok_as : {T E : Type 0} (r : Result T E) (P Q : T → Type 0) → ((x : T) → P x → Q x) → IfOk r P → IfOk r Q
ok_as (Ok x) P Q f h = f x h
ok_as (Err e) P Q f h = tt

pub sizes_are : (T : TaskData) (marked : List ℕ) (kinds : List SimpleType) (a b : List ℕ) → tys kinds ≡ T.symbols.funs
    → a ≡ map (λ k. length (space_of (arguments (ty k)))) kinds → b ≡ a ++ map (λ f. length (space_of (marked_types T.symbols T.rules f))) marked
    → b ≡ map (λ Γ. length (space_of Γ)) (scopes_of T marked)
sizes_are T marked kinds a b funs first second =
    second ∙ ap₂ (λ (l m : List ℕ). l ++ m) (first ∙ front kinds ∙ ap (λ (l : List Ty). map (λ (Γ : List Ty). length (space_of Γ)) (map arguments l)) funs) (back marked)
    ∙ sym (map-append (λ (Γ : List Ty). length (space_of Γ)) (map arguments T.symbols.funs) (map (marked_types T.symbols T.rules) marked))
  where
    front : (ks : List SimpleType) → map (λ k. length (space_of (arguments (ty k)))) ks ≡ map (λ (Γ : List Ty). length (space_of Γ)) (map arguments (tys ks))
    front [] = refl
    front (k ∷ ks) = ap (λ (l : List ℕ). length (space_of (arguments (ty k))) ∷ l) (front ks)

    back : (fs : List ℕ) → map (λ f. length (space_of (marked_types T.symbols T.rules f))) fs ≡ map (λ (Γ : List Ty). length (space_of Γ)) (map (marked_types T.symbols T.rules) fs)
    back [] = refl
    back (f ∷ fs) = ap (λ (l : List ℕ). length (space_of (marked_types T.symbols T.rules f)) ∷ l) (back fs)
