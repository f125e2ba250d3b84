-- How precedences compare, as bits say it.
use Rattle.std.proofs.Common.{◌≡◌, ℕ, ◌&&◌, ◌||◌, inl, inr, Bool, true, false, not, List, refl, ap, ap₂, ◌∙◌, subst, Option, Some, Result, Ok, Err, IfOk, arith}
use Rattle.std.specs.declared.alloc.AllocError.{AllocError}
use Rattle.std.proofs.lemmas.Bool.{lt-ltb, le-ltb, cases_lt}
use Rattle.wh_order_extended.specs.Filtered.{precedences}
use Rattle.wh_order_demands.specs.declared.demand.Demand.{Demand}
use Rattle.wh_order_demands.specs.declared.demand.Demand.TheVariants.{Always}
use Rattle.wh_order_demands.specs.declared.view.Spot.{Spot}
use Rattle.wh_order_demands.specs.Demands.{holds}
use Rattle.wh_order_demands.specs.Claims.{order_bit}
use Rattle.wh_order_demands.specs.Views.{IsSpotOf}
use Rattle.wh_order_demands.specs.OrderDemands.{IsBitBetween, IsOrderDemand}
use Rattle.wh_order_demands.proofs.PartLemmas.{below_at}

pub or_left : {a : Bool} (b : Bool) → a ≡ true → (a || b) ≡ true
or_left b e = ap (λ a. a || b) e

pub or_right : (a : Bool) {b : Bool} → b ≡ true → (a || b) ≡ true
or_right true e = refl
or_right false e = e

pub both_true : {a b : Bool} → a ≡ true → b ≡ true → (a && b) ≡ true
both_true e f = ap₂ (λ x y. x && y) e f

-- nothing is demanded, and demands join
pub always_met : (spots : List (Option Spot)) → IsOrderDemand spots Always
always_met spots v Φ say = refl

pub join_met : (spots : List (Option Spot)) (a b made : Demand) → IsOrderDemand spots a → IsOrderDemand spots b → ((v : ℕ → Bool) → holds v made ≡ (holds v a && holds v b))
    → IsOrderDemand spots made
join_met spots a b made p q is v Φ say = is v ∙ both_true (p v Φ say) (q v Φ say)

pub join_all : (spots : List (Option Spot)) (a b c rest : Demand) (r : Result Demand AllocError) → IsOrderDemand spots a → IsOrderDemand spots b → IsOrderDemand spots c
    → ((v : ℕ → Bool) → holds v rest ≡ (holds v b && holds v c)) → IfOk r (λ made. (v : ℕ → Bool) → holds v made ≡ (holds v a && holds v rest))
    → IfOk r (IsOrderDemand spots)
join_all spots a b c rest (Err e) p q o last all = tt
join_all spots a b c rest (Ok made) p q o last all = join_met spots a rest made p (join_met spots b c rest q o last) all

module _ (spots : List (Option Spot)) where
  -- a bit between two symbols that have bits
  pub bit_is : (f g : ℕ) (a : Spot) (o : Option Spot) (b : Spot) (x : ℕ) → IsSpotOf spots f (Some a) → o ≡ Some b → IsSpotOf spots g o
      → x ≡ order_bit a.places a.first g → IsBitBetween spots f g (Some x)
  bit_is f g a o b x p is q same v Φ say =
      ap v same ∙ say.orders f g a p (below_at spots g (Some b) (subst (IsSpotOf spots g) is q))

  -- of two precedences one is at least the other
  pub compared_met : (f g x y : ℕ) (r : Result Demand AllocError) → IsBitBetween spots f g (Some x) → IsBitBetween spots g f (Some y)
      → IfOk r (λ made. (v : ℕ → Bool) → holds v made ≡ (v x || v y)) → IfOk r (IsOrderDemand spots)
  compared_met f g x y (Err e) there back is = tt
  compared_met f g x y (Ok made) there back is = λ v Φ say. is v ∙ elim (cases_lt (precedences Φ f) (precedences Φ g)) [
    | inl less ↦ or_right (v x) (back v Φ say ∙ ap not (le-ltb (precedences Φ g) (precedences Φ f) (omega (arith, less))))
    | inr least ↦ or_left _ (there v Φ say ∙ ap not (le-ltb (precedences Φ f) (precedences Φ g) least))
  ]

  -- and that is passed on
  pub passed_met : (f g h x y z : ℕ) (not_both : Demand) (r : Result Demand AllocError) → IsBitBetween spots f g (Some x) → IsBitBetween spots g h (Some y) → IsBitBetween spots f h (Some z)
      → ((v : ℕ → Bool) → holds v not_both ≡ (not (v x) || not (v y)))
      → IfOk r (λ made. (v : ℕ → Bool) → holds v made ≡ (holds v not_both || v z)) → IfOk r (IsOrderDemand spots)
  passed_met f g h x y z not_both (Err e) near next far either is = tt
  passed_met f g h x y z not_both (Ok made) near next far either is = λ v Φ say. is v ∙ elim (cases_lt (precedences Φ f) (precedences Φ h)) [
    | inr least ↦ or_right (holds v not_both) (far v Φ say ∙ ap not (le-ltb (precedences Φ f) (precedences Φ h) least))
    | inl less ↦ or_left _ (either v ∙ elim (cases_lt (precedences Φ f) (precedences Φ g)) [
      | inl first ↦ or_left _ (ap not (near v Φ say ∙ ap not (lt-ltb (precedences Φ f) (precedences Φ g) first)))
      | inr over ↦ or_right (not (v x)) (ap not (next v Φ say ∙ ap not (lt-ltb (precedences Φ g) (precedences Φ h) (omega (arith, less, over)))))
    ])
  ]
