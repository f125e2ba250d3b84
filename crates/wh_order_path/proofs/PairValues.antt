-- The values of the two sides of a pair, under any bodies that are typed where they occur.
use Rattle.std.proofs.Common.{length, ◌++◌, ◌≡◌, ◌≢◌, ℕ, List, [], ◌∷◌, map, refl, ap, ◌∙◌, sym}
use mathlib.Core.Path.{subst₂}
use Rattle.wh_terms.specs.Tree.{Tm, Tms, tms_of}
use Rattle.wh_terms.specs.Value.{Body, Values}
use Rattle.wh_types.specs.Ty.{Ty}
use Rattle.wh_terms.specs.Sight.{OccursIn}
use Rattle.wh_terms.specs.Typing.{Symbols, Declared, AllTyped}
use Rattle.wh_terms.specs.Rules.{RewriteRule}
use Rattle.wh_terms.specs.StepOver.{StepOver}
use Rattle.wh_terms.proofs.ValueForm.{value, values, values_agree}
use Rattle.wh_terms.proofs.ValueLaws.{values_are}
use Rattle.wh_order_inference.specs.Filters.{Filter}
use Rattle.wh_order_inference.specs.Inferences.{Inference, letter_of, same_trees}
use Rattle.wh_order_extended.specs.Many.{Many, Plus}
use Rattle.wh_order_extended.specs.Kinds.{AreCounted}
use Rattle.wh_order_extended.specs.Filtered.{FitsMark}
use Rattle.wh_order_extended.proofs.Sides.{args_at, args_is}
use Rattle.wh_order_extended.proofs.MoreMetas.{all_fitted}
use Rattle.wh_order_path.specs.OrderRoot.{OrderRoot}
use Rattle.wh_order_path.specs.Heads.{list_of}
use Rattle.wh_order_path.specs.Lines.{AreOriented, PairSides, HasTypedBodies, IsGoodPairLine, filtered_call}
use Rattle.wh_order_path.proofs.FilteredSteps.{pair_steps, pair_falls}

list_back : (ts : List Tm) → list_of (tms_of ts) ≡ ts
list_back [] = refl
list_back (t ∷ ts) = ap (λ l. t ∷ l) (list_back ts)

values_list : (b : ℕ → Body) (ts : List Tm) → list_of (values b (tms_of ts)) ≡ map (value b) ts
unfolding values
values_list b [] = refl
values_list b (t ∷ ts) = ap (λ l. value b t ∷ l) (values_list b ts)

-- the bodies, with as many parameters as their meta-variables have arguments
fit_bodies : List Declared → (ℕ → Body) → ℕ → Body
fit_bodies M b z = record { arity = length (args_at M z); tree = (b z).tree }

fit_counted : (M : List Declared) (b : ℕ → Body) → AreCounted M (fit_bodies M b)
unfolding fit_bodies
fit_counted M b z d e = ap length (args_is M z d e)

fit_typed : (S : Symbols) (M : List Declared) (b : ℕ → Body) (ts : Tms) → HasTypedBodies S M b ts → HasTypedBodies S M (fit_bodies M b) ts
unfolding fit_bodies
fit_typed S M b ts h z d o e = record { counted = ap length (args_is M z d e); typed = (h z d o e).typed }

-- the values are the same under these
fit_list : (S : Symbols) (M : List Declared) (b : ℕ → Body) (ts us : List Tm) (cs : List Ty) → AllTyped S M [] (tms_of ts) cs → Values b (tms_of ts) (tms_of us)
    → map (value (fit_bodies M b)) ts ≡ us
unfolding fit_bodies
fit_list S M b ts us cs p v =
    sym (values_list (fit_bodies M b) ts)
    ∙ ap list_of (sym (values_agree b (fit_bodies M b) (tms_of ts) same) ∙ sym (values_are v).1)
    ∙ list_back us
  where
    put : ℕ → Tm → Body
    put n t = record { arity = n; tree = t }

    same : (z : ℕ) → OccursIn z (tms_of ts) → b z ≡ fit_bodies M b z
    same z o =
        let f = all_fitted b z p (values_are v).0 o in
        ap (λ n. put n (b z).tree) (f.counted ∙ ap length (sym (args_is M z f.declared f.at)))

-- where the inference of a pair is good, the filtered call of a value of its left side comes to that of its right side
pub pair_values_step : (S F : Symbols) (Φ : ℕ → Filter) (prec : ℕ → ℕ) (rules : List RewriteRule) (M : List Declared) (f g : ℕ) (cs ds : List Ty)
    (ls rs ts us : List Tm) (i : Inference) (b : ℕ → Body) → AreOriented S F Φ prec rules → FitsMark S F Φ f cs → FitsMark S F Φ g ds
    → PairSides S M cs ds ls rs → IsGoodPairLine S F Φ prec M f ls g rs i → HasTypedBodies S M b (tms_of (ls ++ rs))
    → Values b (tms_of ls) (tms_of ts) → Values b (tms_of rs) (tms_of us)
    → Many (StepOver (OrderRoot F prec)) (filtered_call S Φ [] f ts) (filtered_call S Φ [] g us)
    × (letter_of i ≢ same_trees → Plus (StepOver (OrderRoot F prec)) (filtered_call S Φ [] f ts) (filtered_call S Φ [] g us))
pair_values_step S F Φ prec rules M f g cs ds ls rs ts us i b o m n sides good bodies v w =
    let fit = fit_bodies M b in
    let left = fit_list S M b ls ts cs sides.left_typed v in
    let right = fit_list S M b rs us ds sides.right_typed w in
    let typed = fit_typed S M b (tms_of (ls ++ rs)) bodies in (
      subst₂ (λ ts us. Many (StepOver (OrderRoot F prec)) (filtered_call S Φ [] f ts) (filtered_call S Φ [] g us)) left right
          (pair_steps S F Φ prec rules o.well_made o.sorts_known o.filters o.one_sort o.lines M f g cs ds m n ls rs sides i good fit (fit_counted M b) typed),
      λ strict. subst₂ (λ ts us. Plus (StepOver (OrderRoot F prec)) (filtered_call S Φ [] f ts) (filtered_call S Φ [] g us)) left right
          (pair_falls S F Φ prec rules o.well_made o.sorts_known o.filters o.one_sort o.lines M f g cs ds m n ls rs sides i good fit (fit_counted M b) typed strict),
    )
