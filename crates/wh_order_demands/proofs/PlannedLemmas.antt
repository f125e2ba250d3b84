-- Demands of parts, one part after another.
use Rattle.std.proofs.Common.{◌≡◌, ℕ, zero, suc, ◌+◌, ◌<◌, ◌≤◌, ◌&&◌, ◌||◌, ◌⊎◌, inl, inr, Bool, true, false, List, [], ◌∷◌, length, get_or, refl, ap, ap₂, ◌∙◌, sym, subst, Option, Some, None, Result, Ok, Err, IfOk, slice_get, arith}
use Rattle.std.proofs.lemmas.Bool.{cases_eq}
use Rattle.std.specs.Prelude.{not}
use Rattle.std.specs.declared.alloc.AllocError.{AllocError}
use Rattle.wh_terms.specs.Tree.{Tm}
use Rattle.wh_order_inference.specs.Filters.{Filter}
use Rattle.wh_order_demands.specs.declared.claim.Claim.{Claim}
use Rattle.wh_order_demands.specs.declared.claim.Claim.TheVariants.{Equal, Greater, AtLeast}
use Rattle.wh_order_demands.specs.declared.demand.Demand.{Demand}
use Rattle.wh_order_demands.specs.declared.demand.Demand.TheVariants.{Always, Never, Bit, NoBit}
use Rattle.wh_order_demands.specs.declared.plan.Part.{Part}
use Rattle.wh_order_demands.specs.declared.view.Spot.{Spot}
use Rattle.wh_order_demands.specs.Demands.{holds}
use Rattle.wh_order_demands.specs.Claims.{behind, IsGreater, SayFilters, IsPossible}
use Rattle.wh_order_demands.specs.Plans.{PartData, part_data, parts_data, AllData, free, same_symbol, other_symbol, SomeSet, HoldsOf, IsSet, IsOrderMet, PlanData, IsPlanFor}
use Rattle.wh_order_demands.specs.OrderDemands.{IsNoneSet}
use Rattle.wh_order_demands.specs.Planned.{MeetsSome, MeetsAll, MeetsFirstFrom, MeetsOrder, MeetsWhole, MeetsPlan, IsFirstDemand}
use Rattle.wh_order_demands.proofs.PartLemmas.{below_at}

one_of : {A : Type 0} {a b : A} → Some a ≡ Some b → a ≡ b
one_of e = cc

or_left : {a : Bool} (b : Bool) → a ≡ true → (a || b) ≡ true
or_left b e = ap (λ a. a || b) e

or_right : (a : Bool) {b : Bool} → b ≡ true → (a || b) ≡ true
or_right true e = refl
or_right false e = e

both_true : {a b : Bool} → a ≡ true → b ≡ true → (a && b) ≡ true
both_true e f = ap₂ (λ x y. x && y) e f

-- the part at a place
pub part_at : (ps : List Part) (k : ℕ) (p : Part) → p ≡ get_or ps k p → k < length ps → slice_get (parts_data ps) k ≡ Some (part_data p)
part_at [] k p e l = absurd (omega (arith, l))
part_at (q ∷ ps) zero p e l = ap (λ q. Some (part_data q)) (sym e)
part_at (q ∷ ps) (suc k) p e l = part_at ps k p e (omega (arith, l))

pub parts_count : (ps : List Part) → length (parts_data ps) ≡ length ps
parts_count [] = refl
parts_count (p ∷ ps) = ap suc (parts_count ps)

-- the demand is met where one of the first k parts is
abbrev pub MeetsFirst : List (Option Spot) → List PartData → ℕ → Demand → Type 0
MeetsFirst spots ps k demand = (v : ℕ → Bool) (Φ : ℕ → Filter) → SayFilters spots v Φ → (n : ℕ) (p : PartData) → n < k → slice_get ps n ≡ Some p
    → IsSet v Φ p → HoldsOf v Φ p → holds v demand ≡ true

-- or where all of them are
abbrev pub MeetsAllFirst : List (Option Spot) → List PartData → ℕ → Demand → Type 0
MeetsAllFirst spots ps k demand = (v : ℕ → Bool) (Φ : ℕ → Filter) → SayFilters spots v Φ
    → ((n : ℕ) (p : PartData) → n < k → slice_get ps n ≡ Some p → IsSet v Φ p → HoldsOf v Φ p) → holds v demand ≡ true

module _ (spots : List (Option Spot)) (ps : List PartData) where
  pub first_none : MeetsFirst spots ps 0 Never
  first_none v Φ say n p l = absurd (omega (arith, l))

  pub first_more : (k : ℕ) (q : PartData) (found own set met made : Demand) → slice_get ps k ≡ Some q → IsPossible spots q.claim q.left q.right own
      → ((v : ℕ → Bool) → holds v set ≡ (v q.bit || v q.other))
      → ((v : ℕ → Bool) → holds v met ≡ (holds v set && holds v own)) → ((v : ℕ → Bool) → holds v made ≡ (holds v found || holds v met))
      → MeetsFirst spots ps k found → MeetsFirst spots ps (k + 1) made
  first_more k q found own set met made at possible set_is met_is made_is before v Φ say n p l there is h = made_is v ∙ elim (cases_eq n k) [
    | inl e ↦
        let same : p ≡ q = one_of (sym there ∙ subst (λ n. slice_get ps n ≡ Some q) (sym e) at) in
        or_right (holds v found) (met_is v ∙ both_true (set_is v ∙ subst (IsSet v Φ) same is) (possible v Φ say (subst (HoldsOf v Φ) same h)))
    | inr ne ↦ or_left _ (before v Φ say n p (omega (arith, l, ne)) there is h)
  ]

  pub first_all : (k : ℕ) (d : Demand) → length ps ≤ k → MeetsFirst spots ps k d → MeetsSome spots ps d
  first_all k d l h v Φ say m = h v Φ say m.place m.part (omega (arith, l, below_at ps m.place m.part m.at)) m.at m.set m.holds_of

  pub all_none : MeetsAllFirst spots ps 0 Always
  all_none v Φ say h = refl

  pub all_more : (k : ℕ) (q : PartData) (found own unset met made : Demand) → slice_get ps k ≡ Some q → IsPossible spots q.claim q.left q.right own
      → ((v : ℕ → Bool) → holds v unset ≡ not (v q.bit || v q.other))
      → ((v : ℕ → Bool) → holds v met ≡ (holds v unset || holds v own)) → ((v : ℕ → Bool) → holds v made ≡ (holds v found && holds v met))
      → MeetsAllFirst spots ps k found → MeetsAllFirst spots ps (k + 1) made
  all_more k q found own unset met made at possible unset_is met_is made_is before v Φ say h =
      made_is v ∙ both_true (before v Φ say (λ n p l. h n p (omega (arith, l)))) (met_is v ∙ on (v q.bit || v q.other) refl)
    where
      on : (b : Bool) → (v q.bit || v q.other) ≡ b → (holds v unset || holds v own) ≡ true
      on true e = or_right (holds v unset) (possible v Φ say (h k q (omega arith) at e))
      on false e = or_left _ (unset_is v ∙ ap not e)

  pub all_met : (k : ℕ) (d : Demand) → length ps ≤ k → MeetsAllFirst spots ps k d → MeetsAll spots ps d
  all_met k d l h v Φ say m = h v Φ say (λ n p _. m n p)

  -- no part differs behind the last one
  pub differ_none : MeetsFirstFrom spots (length ps) ps Never
  differ_none v Φ say m = absurd (omega (arith, m.from, below_at ps m.place m.part m.at))

  -- one part more in front
  pub differ_more : (k j : ℕ) (q : PartData) (rest made : Demand) → k ≡ j + 1 → slice_get ps j ≡ Some q → MeetsFirstFrom spots k ps rest → IsFirstDemand spots q rest made
      → MeetsFirstFrom spots j ps made
  differ_more k j q rest made next at later is v Φ say m = elim (cases_eq m.place j) [
    | inl e ↦
        let same : m.part ≡ q = one_of (sym m.at ∙ subst (λ n. slice_get ps n ≡ Some q) (sym e) at) in
        is v Φ say (inl (subst (IsSet v Φ) same m.set, subst (λ (q : PartData). IsGreater Φ q.left q.right) same m.less))
    | inr ne ↦
        let past : k < suc m.place = omega (arith, next, ne, m.from) in
        is v Φ say (inr (
          (λ set. m.before j q (omega arith) (omega (arith, next, past)) at set),
          later v Φ say record {
            place = m.place;
            part = m.part;
            from = past;
            at = m.at;
            set = m.set;
            less = m.less;
            before = λ n p l. m.before n p (omega (arith, next, l));
          },
        ))
  ]

-- the demand of a part that comes first
pub first_demand : (spots : List (Option Spot)) (p : PartData) (greater equal set unset here same later rest made : Demand)
    → IsPossible spots Greater p.left p.right greater → IsPossible spots Equal p.left p.right equal
    → ((v : ℕ → Bool) → holds v set ≡ (v p.bit || v p.other)) → ((v : ℕ → Bool) → holds v unset ≡ not (v p.bit || v p.other))
    → ((v : ℕ → Bool) → holds v here ≡ (holds v set && holds v greater)) → ((v : ℕ → Bool) → holds v same ≡ (holds v unset || holds v equal))
    → ((v : ℕ → Bool) → holds v later ≡ (holds v same && holds v rest)) → ((v : ℕ → Bool) → holds v made ≡ (holds v here || holds v later))
    → IsFirstDemand spots p rest made
first_demand spots p greater equal set unset here same later rest made is_greater is_equal set_is unset_is here_is same_is later_is made_is v Φ say = on
  where
    whether : (b : Bool) → (v p.bit || v p.other) ≡ b → (IsSet v Φ p → behind Φ p.left ≡ behind Φ p.right) → holds v same ≡ true
    whether true e h = same_is v ∙ or_right (holds v unset) (is_equal v Φ say (h e))
    whether false e h = same_is v ∙ or_left _ (unset_is v ∙ ap not e)

    on : (IsSet v Φ p × IsGreater Φ p.left p.right) ⊎ ((IsSet v Φ p → behind Φ p.left ≡ behind Φ p.right) × (holds v rest ≡ true)) → holds v made ≡ true
    on (inl (e, g)) = made_is v ∙ or_left _ (here_is v ∙ both_true (set_is v ∙ e) (is_greater v Φ say g))
    on (inr (h, r)) = made_is v ∙ or_right (holds v here) (later_is v ∙ both_true (whether (v p.bit || v p.other) refl h) r)

pub first_demanded : (spots : List (Option Spot)) (p : PartData) (greater equal set unset here same later rest : Demand) (r : Result Demand AllocError)
    → IsPossible spots Greater p.left p.right greater → IsPossible spots Equal p.left p.right equal
    → ((v : ℕ → Bool) → holds v set ≡ (v p.bit || v p.other)) → ((v : ℕ → Bool) → holds v unset ≡ not (v p.bit || v p.other))
    → ((v : ℕ → Bool) → holds v here ≡ (holds v set && holds v greater)) → ((v : ℕ → Bool) → holds v same ≡ (holds v unset || holds v equal))
    → ((v : ℕ → Bool) → holds v later ≡ (holds v same && holds v rest)) → IfOk r (λ made. (v : ℕ → Bool) → holds v made ≡ (holds v here || holds v later))
    → IfOk r (IsFirstDemand spots p rest)
first_demanded spots p greater equal set unset here same later rest (Ok made) a b c d e f g h =
    first_demand spots p greater equal set unset here same later rest made a b c d e f g h
first_demanded spots p greater equal set unset here same later rest (Err x) a b c d e f g h = tt

-- one bit more of those of which one is set
abbrev pub MeetsBits : (first k : ℕ) → Demand → Type 0
MeetsBits first k d = (v : ℕ → Bool) (i : ℕ) → i < k → v (first + i) ≡ true → holds v d ≡ true

pub bits_none : (first : ℕ) → MeetsBits first 0 Never
bits_none first v i l e = absurd (omega (arith, l))

pub bits_more : (first k x : ℕ) (found made : Demand) → x ≡ first + k → ((v : ℕ → Bool) → holds v made ≡ (holds v found || holds v (Bit x))) → MeetsBits first k found → MeetsBits first (k + 1) made
bits_more first k x found made at is before v i l e = is v ∙ elim (cases_eq i k) [
  | inl same ↦ or_right (holds v found) (ap v (at ∙ ap (λ k. first + k) (sym same)) ∙ e)
  | inr ne ↦ or_left _ (before v i (omega (arith, l, ne)) e)
]

pub bits_all : (first k count : ℕ) (d : Demand) → count ≤ k → MeetsBits first k d → (v : ℕ → Bool) → SomeSet v first count → holds v d ≡ true
bits_all first k count d l h v (i, below, e) = h v i (omega (arith, l, below)) e

-- how two symbols compare
others_met : (spots : List (Option Spot)) (first count above below : ℕ) (ps : List PartData) (some level low picks made : Demand) → MeetsSome spots ps some
    → ((v : ℕ → Bool) → holds v level ≡ (holds v (Bit above) && holds v some)) → ((v : ℕ → Bool) → holds v low ≡ (holds v (NoBit below) || holds v level))
    → ((v : ℕ → Bool) → SomeSet v first count → holds v picks ≡ true) → ((v : ℕ → Bool) → holds v made ≡ (holds v picks || holds v low))
    → MeetsOrder spots (other_symbol first count above below ps) made
others_met spots first count above below ps some level low picks made is_some level_is low_is picks_is made_is v Φ say = on
  where
    on : IsOrderMet v Φ (other_symbol first count above below ps) → holds v made ≡ true
    on (inl h) = made_is v ∙ or_left _ (picks_is v h)
    on (inr (inl h)) = made_is v ∙ or_right (holds v picks) (low_is v ∙ or_left _ (ap not h))
    on (inr (inr (h, m))) = made_is v ∙ or_right (holds v picks) (low_is v ∙ or_right (not (v below)) (level_is v ∙ both_true h (is_some v Φ say m)))

pub others_demanded : (spots : List (Option Spot)) (first count above below : ℕ) (ps : List PartData) (some level low picks : Demand) (r : Result Demand AllocError) → MeetsSome spots ps some
    → ((v : ℕ → Bool) → holds v level ≡ (holds v (Bit above) && holds v some)) → ((v : ℕ → Bool) → holds v low ≡ (holds v (NoBit below) || holds v level))
    → ((v : ℕ → Bool) → SomeSet v first count → holds v picks ≡ true) → IfOk r (λ made. (v : ℕ → Bool) → holds v made ≡ (holds v picks || holds v low))
    → IfOk r (MeetsOrder spots (other_symbol first count above below ps))
others_demanded spots first count above below ps some level low picks (Ok made) a b c d e = others_met spots first count above below ps some level low picks made a b c d e
others_demanded spots first count above below ps some level low picks (Err x) a b c d e = tt

pub free_met : (spots : List (Option Spot)) → MeetsOrder spots free Always
free_met spots v Φ say m = refl

pub same_met : (spots : List (Option Spot)) (ps : List PartData) (r : Result Demand AllocError) → IfOk r (MeetsFirstFrom spots 0 ps) → IfOk r (MeetsOrder spots (same_symbol ps))
same_met spots ps (Ok d) h = λ v Φ say m. h v Φ say m
same_met spots ps (Err e) h = tt

-- all parts, and how symbols compare
pub whole_met : (spots : List (Option Spot)) (a : AllData) (unset all order rest : Demand) (r : Result Demand AllocError)
    → IfOk r (λ made. (v : ℕ → Bool) → holds v made ≡ (holds v unset && holds v rest)) → ((v : ℕ → Bool) → holds v rest ≡ (holds v all && holds v order))
    → IsNoneSet a.first a.count unset → MeetsAll spots a.parts all → MeetsOrder spots a.order order → IfOk r (MeetsWhole spots a)
whole_met spots a unset all order rest (Ok d) is two n h o = λ v Φ say m.
    is v ∙ both_true (n v m.unset) (two v ∙ both_true (h v Φ say m.parts) (o v Φ say m.order))
whole_met spots a unset all order rest (Err e) is two n h o = tt

-- one of the two is met
either_met : (spots : List (Option Spot)) (ps : List PartData) (q : AllData) (a b d : Demand) → ((v : ℕ → Bool) → holds v d ≡ (holds v a || holds v b))
    → MeetsSome spots ps a → MeetsWhole spots q b → MeetsPlan spots (record { some = ps; all = Some q }) d
either_met spots ps q a b d is some all v Φ say (inl m) = is v ∙ or_left _ (some v Φ say m)
either_met spots ps q a b d is some all v Φ say (inr m) = is v ∙ or_right (holds v a) (all v Φ say m)

pub plan_either : (spots : List (Option Spot)) (ps : List PartData) (q : AllData) (a b : Demand) (r : Result Demand AllocError)
    → IfOk r (λ made. (v : ℕ → Bool) → holds v made ≡ (holds v a || holds v b)) → MeetsSome spots ps a → MeetsWhole spots q b
    → IfOk r (MeetsPlan spots (record { some = ps; all = Some q }))
plan_either spots ps q a b (Ok d) is some all = either_met spots ps q a b d is some all
plan_either spots ps q a b (Err e) is some all = tt

pub plan_some : (spots : List (Option Spot)) (ps : List PartData) (a : Demand) → MeetsSome spots ps a → MeetsPlan spots (record { some = ps; all = None }) a
plan_some spots ps a some v Φ say (inl m) = some v Φ say m
plan_some spots ps a some v Φ say (inr m) = absurd m

at_least_met : (spots : List (Option Spot)) (s t : Tm) (a b d : Demand) → ((v : ℕ → Bool) → holds v d ≡ (holds v a || holds v b))
    → IsPossible spots Equal s t a → IsPossible spots Greater s t b → IsPossible spots AtLeast s t d
at_least_met spots s t a b d is equal greater v Φ say (inl e) = is v ∙ or_left _ (equal v Φ say e)
at_least_met spots s t a b d is equal greater v Φ say (inr g) = is v ∙ or_right (holds v a) (greater v Φ say g)

pub at_least_possible : (spots : List (Option Spot)) (s t : Tm) (a b : Demand) (r : Result Demand AllocError)
    → IfOk r (λ made. (v : ℕ → Bool) → holds v made ≡ (holds v a || holds v b)) → IsPossible spots Equal s t a → IsPossible spots Greater s t b
    → IfOk r (IsPossible spots AtLeast s t)
at_least_possible spots s t a b (Ok d) is equal greater = at_least_met spots s t a b d is equal greater
at_least_possible spots s t a b (Err e) is equal greater = tt

pub planned_possible : (spots : List (Option Spot)) (c : Claim) (s t : Tm) (d : PlanData) (r : Result Demand AllocError) → IsPlanFor spots c s t d
    → IfOk r (MeetsPlan spots d) → IfOk r (IsPossible spots c s t)
planned_possible spots c s t d (Ok a) plan meets = λ v Φ say h. meets v Φ say (plan v Φ say h)
planned_possible spots c s t d (Err e) plan meets = tt
