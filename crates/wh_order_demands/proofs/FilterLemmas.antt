-- What bits meet that say filters.
use Rattle.std.proofs.Common.{◌≡◌, ◌≢◌, ℕ, zero, suc, ◌+◌, ◌<◌, ◌&&◌, ◌||◌, inl, inr, Bool, true, false, not, List, [], ◌∷◌, get_or, refl, ap, ◌∙◌, sym, subst, Option, Some, None, Result, Ok, Err, IfOk, arith, slice_get}
use Rattle.std.specs.declared.alloc.AllocError.{AllocError}
use Rattle.std.proofs.lemmas.Bool.{cases_eq}
use Rattle.wh_order_inference.specs.Filters.{Filter, keep, pick}
use Rattle.wh_order_demands.specs.declared.demand.Demand.{Demand}
use Rattle.wh_order_demands.specs.declared.demand.Demand.TheVariants.{Always}
use Rattle.wh_order_demands.specs.declared.view.Spot.{Spot}
use Rattle.wh_order_demands.specs.Demands.{holds}
use Rattle.wh_order_demands.specs.Claims.{Says}
use Rattle.wh_order_demands.specs.OrderDemands.{IsFilterDemand, IsItemDemand, IsNoneSet, IsOrderDemand}
use Rattle.wh_order_demands.proofs.PartLemmas.{not_set}
use Rattle.wh_order_demands.proofs.OrderLemmas.{or_left, or_right, both_true}

-- nothing is demanded, and demands join
pub filter_free : (spot : Spot) → IsFilterDemand spot Always
filter_free spot v φ say = refl

pub filter_join : (spot : Spot) (a b made : Demand) → IsFilterDemand spot a → IsFilterDemand spot b → ((v : ℕ → Bool) → holds v made ≡ (holds v a && holds v b))
    → IsFilterDemand spot made
filter_join spot a b made p q is v φ say = is v ∙ both_true (p v φ say) (q v φ say)

-- the spot of a symbol, as a walk over all meets it
spot_item : (spots : List (Option Spot)) (k : ℕ) (spot : Spot) → get_or spots k None ≡ Some spot → slice_get spots k ≡ Some (Some spot)
spot_item [] k spot e = absurd (cc)
spot_item (s ∷ spots) zero spot e = ap Some e
spot_item (s ∷ spots) (suc k) spot e = spot_item spots k spot e

-- what the bits of one symbol meet joins what those of all do
pub filter_joins : (spots : List (Option Spot)) (n : ℕ) (a b made : Demand) → IsOrderDemand spots a → IsItemDemand (get_or spots n None) b
    → ((v : ℕ → Bool) → holds v made ≡ (holds v a && holds v b)) → IsOrderDemand spots made
filter_joins spots n a b made p q is v Φ say = is v ∙ both_true (p v Φ say) (on (get_or spots n None) refl q)
  where
    on : (item : Option Spot) → get_or spots n None ≡ item → IsItemDemand item b → holds v b ≡ true
    on None e q = q v
    on (Some spot) e q = q v (Φ n) (say.filters n spot (spot_item spots n spot e))

pub item_none : (item : Option Spot) → item ≡ None → IsItemDemand item Always
item_none item e = subst (λ o. IsItemDemand o Always) (sym e) (λ v. refl)

pub item_some : (item : Option Spot) (spot : Spot) (r : Result Demand AllocError) → item ≡ Some spot → IfOk r (IsFilterDemand spot) → IfOk r (IsItemDemand item)
item_some item spot (Err f) e is = tt
item_some item spot (Ok d) e is = subst (λ o. IsItemDemand o d) (sym e) is

-- of no bits none is set; one more is not
pub none_first : (first : ℕ) → IsNoneSet first 0 Always
none_first first v unset = refl

pub none_next : (first k bit : ℕ) (a made : Demand) → bit ≡ first + k → ((v : ℕ → Bool) → holds v made ≡ (holds v a && not (v bit))) → IsNoneSet first k a
    → IsNoneSet first (k + 1) made
none_next first k bit a made at is before v unset =
    is v ∙ both_true (before v (λ i less. unset i (omega (arith, less)))) (ap not (ap v at ∙ unset k (omega arith)))

module _ (spot : Spot) (place bit : ℕ) (within : place < spot.places) (at : bit ≡ spot.places + spot.first + place) where
  -- the place is not picked
  not_picked : (v : ℕ → Bool) (φ : Filter) → Says v spot.first spot.places φ → (φ ≢ pick place) → v bit ≡ false
  not_picked v (keep p is) say other = ap v at ∙ not_set _ (say.none_picked p is place refl within)
  not_picked v (pick i) say other = ap v at ∙ not_set _ (λ set. other (ap pick (sym (say.one_picked i place refl within set))))

  -- where it is, no place is kept and no earlier one is picked
  pub alone_met : (no_keep no_pick alone made : Demand) → IsNoneSet spot.first spot.places no_keep → IsNoneSet (spot.places + spot.first) place no_pick
      → ((v : ℕ → Bool) → holds v alone ≡ (holds v no_keep && holds v no_pick)) → ((v : ℕ → Bool) → holds v made ≡ (not (v bit) || holds v alone))
      → IsFilterDemand spot made
  alone_met no_keep no_pick alone made keeps picks both either v (keep p is) say =
      either v ∙ or_left _ (ap not (not_picked v (keep p is) say (λ e. absurd (cc))))
  alone_met no_keep no_pick alone made keeps picks both either v (pick i) say = either v ∙ elim (cases_eq i place) [
    | inr other ↦ or_left _ (ap not (not_picked v (pick i) say (λ e. other (picks_one i place e))))
    | inl e ↦ or_right (not (v bit)) (both v ∙ both_true
        (keeps v (λ j less. not_set _ (say.none_kept i j refl less)))
        (picks v (λ j less. not_set _ (λ set. absurd (omega (arith, less, e, say.one_picked i j refl (omega (arith, less, within)) set))))))
  ]
    where
      picks_one : (i j : ℕ) → pick i ≡ pick j → i ≡ j
      picks_one i j e = cc

  pub alone_found : (no_keep no_pick alone : Demand) (r : Result Demand AllocError) → IsNoneSet spot.first spot.places no_keep → IsNoneSet (spot.places + spot.first) place no_pick
      → ((v : ℕ → Bool) → holds v alone ≡ (holds v no_keep && holds v no_pick)) → IfOk r (λ made. (v : ℕ → Bool) → holds v made ≡ (not (v bit) || holds v alone))
      → IfOk r (IsFilterDemand spot)
  alone_found no_keep no_pick alone (Err e) keeps picks both either = tt
  alone_found no_keep no_pick alone (Ok made) keeps picks both either = alone_met no_keep no_pick alone made keeps picks both either
