-- Plans: what a claim about two trees asks of their parts, so that it can hold.
use Rattle.std.specs.Prelude.{ℕ, suc, ◌+◌, ◌≡◌, ◌<◌, ◌⊎◌, ◌||◌, Bool, true, false, List, [], ◌∷◌, map, Option, None, Some, slice_get}
use Rattle.wh_terms.specs.Tree.{Tm, meta, none}
use Rattle.wh_terms.specs.Erase.{tm}
use Rattle.wh_order_inference.specs.Filters.{Filter}
use Rattle.wh_order_demands.specs.declared.claim.Claim.{Claim}
use Rattle.wh_order_demands.specs.declared.claim.Claim.TheVariants as claim
use Rattle.wh_order_demands.specs.declared.plan.Part.{Part}
use Rattle.wh_order_demands.specs.declared.plan.Others.{Others}
use Rattle.wh_order_demands.specs.declared.plan.Order.{Order}
use Rattle.wh_order_demands.specs.declared.plan.Order.TheVariants as order
use Rattle.wh_order_demands.specs.declared.plan.Whole.{Whole}
use Rattle.wh_order_demands.specs.declared.plan.Plan.{Plan}
use Rattle.wh_order_demands.specs.declared.view.Spot.{Spot}
use Rattle.wh_order_demands.specs.Claims.{behind, Holds, IsGreater, SayFilters}

-- a claim about two parts, and two bits
pub record PartData : Type 0 where
  pub bit : ℕ
  pub other : ℕ
  pub claim : Claim
  pub left : Tm
  pub right : Tm

abbrev pub part_of : ℕ → ℕ → Claim → Tm → Tm → PartData
part_of x y c s t = record { bit = x; other = y; claim = c; left = s; right = t }

abbrev pub part_data : Part → PartData
part_data p = part_of p.bit p.other p.claim (tm p.left.now) (tm p.right.now)

abbrev pub parts_data : List Part → List PartData
parts_data = map part_data

-- the claim for each tree of a list and t, with the bits from x and from y on
abbrev pub left_parts : ℕ → ℕ → Claim → List Tm → Tm → List PartData
left_parts x y c [] t = []
left_parts x y c (s ∷ ss) t = part_of x y c s t ∷ left_parts (suc x) (suc y) c ss t

-- the claim for s and each tree of a list
abbrev pub right_parts : ℕ → ℕ → Claim → Tm → List Tm → List PartData
right_parts x y c s [] = []
right_parts x y c s (t ∷ ts) = part_of x y c s t ∷ right_parts (suc x) (suc y) c s ts

-- the claim for the trees of two lists, member by member
abbrev pub pair_parts : ℕ → ℕ → Claim → List Tm → List Tm → List PartData
pair_parts x y c (s ∷ ss) (t ∷ ts) = part_of x y c s t ∷ pair_parts (suc x) (suc y) c ss ts
pair_parts x y c _ _ = []

-- how the symbols that head two trees have to compare: nothing is asked; they are one symbol, and the first of its
-- arguments that differ get smaller; or they are two, and the right one picks, by one of `count` bits from `first` on,
-- or is lower, which is so where the bit `below` is not set, or is not higher, as the bit `above` says, and some
-- argument gets smaller than one on the right
pub data OrderData : Type 0 where
  free : OrderData
  same_symbol : List PartData → OrderData
  other_symbol : (first count above below : ℕ) → List PartData → OrderData

-- bits of which none is to be set, parts that are all to be met, and how symbols have to compare
pub record AllData : Type 0 where
  pub first : ℕ
  pub count : ℕ
  pub parts : List PartData
  pub order : OrderData

-- parts of which some are to be met, and others, if there are, which are all to be met instead
pub record PlanData : Type 0 where
  pub some : List PartData
  pub all : Option AllData

abbrev pub others_data : Others → OrderData
others_data o = other_symbol o.first o.count o.above o.below (parts_data o.parts.items)

abbrev pub order_data : Order → OrderData
order_data order.Free = free
order_data (order.Same ps) = same_symbol (parts_data ps.items)
order_data (order.Other o) = others_data o

abbrev pub whole_data : Whole → AllData
whole_data a = record { first = a.first; count = a.count; parts = parts_data a.parts.items; order = order_data a.order }

abbrev pub all_data : Option Whole → Option AllData
all_data None = None
all_data (Some a) = Some (whole_data a)

abbrev pub plan_data : Plan → PlanData
plan_data p = record { some = parts_data p.some.items; all = all_data p.all }

-- one of `count` bits from `first` on is set
abbrev pub SomeSet : (ℕ → Bool) → (first count : ℕ) → Type 0
SomeSet v first count = (i : ℕ) × (i < count) × (v (first + i) ≡ true)

module _ (v : ℕ → Bool) (Φ : ℕ → Filter) where
  abbrev pub HoldsOf : PartData → Type 0
  HoldsOf p = Holds Φ p.claim p.left p.right

  -- one of its bits is set
  abbrev pub IsSet : PartData → Type 0
  IsSet p = (v p.bit || v p.other) ≡ true

  -- some part has a bit set and its claim holds
  pub record IsSomeMet (ps : List PartData) : Type 0 where
    pub place : ℕ
    pub part : PartData
    pub at : slice_get ps place ≡ Some part
    pub set : IsSet part
    pub holds_of : HoldsOf part

  -- the claim of each part holds that has a bit set
  abbrev pub AreAllMet : List PartData → Type 0
  AreAllMet ps = (k : ℕ) (p : PartData) → slice_get ps k ≡ Some p → IsSet p → HoldsOf p

  -- some part from the k-th on has a bit set, its left tree is greater, and in those before it from the k-th on that
  -- have one both trees are equal
  pub record IsFirstMet (k : ℕ) (ps : List PartData) : Type 0 where
    pub place : ℕ
    pub part : PartData
    pub from : k < suc place
    pub at : slice_get ps place ≡ Some part
    pub set : IsSet part
    pub less : IsGreater Φ part.left part.right
    pub before : (n : ℕ) (q : PartData) → k < suc n → n < place → slice_get ps n ≡ Some q → IsSet q → behind Φ q.left ≡ behind Φ q.right

  -- symbols compare so
  abbrev pub IsOrderMet : OrderData → Type 0
  IsOrderMet free = Unit {0}
  IsOrderMet (same_symbol ps) = IsFirstMet 0 ps
  IsOrderMet (other_symbol first count above below ps) = SomeSet v first count ⊎ (v below ≡ false) ⊎ ((v above ≡ true) × IsSomeMet ps)

  -- none of the bits is set, all parts are met, and symbols compare so
  pub record IsWholeMet (a : AllData) : Type 0 where
    pub unset : (i : ℕ) → i < a.count → v (a.first + i) ≡ false
    pub parts : AreAllMet a.parts
    pub order : IsOrderMet a.order

  abbrev pub IsMetByAll : Option AllData → Type 0
  IsMetByAll None = ⊥
  IsMetByAll (Some a) = IsWholeMet a

  -- the plan is met (ours)
  abbrev pub IsMet : PlanData → Type 0
  IsMet d = IsSomeMet d.some ⊎ IsMetByAll d.all

-- where the claim holds the plan is met (ours)
abbrev pub IsPlanFor : List (Option Spot) → Claim → Tm → Tm → PlanData → Type 0
IsPlanFor spots c s t d = (v : ℕ → Bool) (Φ : ℕ → Filter) → SayFilters spots v Φ → Holds Φ c s t → IsMet v Φ d

abbrev pub IsPlan : List (Option Spot) → Claim → Tm → Tm → Option Plan → Type 0
IsPlan spots c s t None = Unit {0}
IsPlan spots c s t (Some p) = IsPlanFor spots c s t (plan_data p)

-- where s is above t, or some part of the list is met, the plan is met
abbrev pub IsPlanBeside : List (Option Spot) → List PartData → Tm → Tm → Option Plan → Type 0
IsPlanBeside spots ps s t None = Unit {0}
IsPlanBeside spots ps s t (Some p) = (v : ℕ → Bool) (Φ : ℕ → Filter) → SayFilters spots v Φ → IsSomeMet v Φ ps ⊎ Holds Φ claim.Above s t → IsMet v Φ (plan_data p)

-- the tree is this meta-variable without arguments
abbrev pub IsAlone : Tm → Option ℕ → Type 0
IsAlone t None = Unit {0}
IsAlone t (Some z) = t ≡ meta z none
