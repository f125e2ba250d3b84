-- Demands made of a plan, part by part: wherever a part is met, the bits meet its demand.
use Rattle.std.specs.Prelude.{ℕ, ◌≡◌, ◌⊎◌, Bool, true, List, Option}
use Rattle.wh_order_inference.specs.Filters.{Filter}
use Rattle.wh_order_demands.specs.declared.demand.Demand.{Demand}
use Rattle.wh_order_demands.specs.declared.view.Spot.{Spot}
use Rattle.wh_order_demands.specs.Demands.{holds}
use Rattle.wh_order_demands.specs.Claims.{behind, IsGreater, SayFilters}
use Rattle.wh_order_demands.specs.Plans.{PartData, OrderData, AllData, PlanData, IsSet, IsSomeMet, IsFirstMet, AreAllMet, IsOrderMet, IsWholeMet, IsMet}

-- wherever bits say filters behind which the plan is met, they meet the demand
abbrev pub MeetsPlan : List (Option Spot) → PlanData → Demand → Type 0
MeetsPlan spots d demand = (v : ℕ → Bool) (Φ : ℕ → Filter) → SayFilters spots v Φ → IsMet v Φ d → holds v demand ≡ true

-- wherever bits say filters behind which some part is met, they meet the demand
abbrev pub MeetsSome : List (Option Spot) → List PartData → Demand → Type 0
MeetsSome spots ps demand = (v : ℕ → Bool) (Φ : ℕ → Filter) → SayFilters spots v Φ → IsSomeMet v Φ ps → holds v demand ≡ true

-- wherever bits say filters behind which all parts are met, they meet the demand
abbrev pub MeetsAll : List (Option Spot) → List PartData → Demand → Type 0
MeetsAll spots ps demand = (v : ℕ → Bool) (Φ : ℕ → Filter) → SayFilters spots v Φ → AreAllMet v Φ ps → holds v demand ≡ true

-- wherever bits say filters behind which the first part that differs, from the k-th on, is met, they meet the demand
abbrev pub MeetsFirstFrom : List (Option Spot) → ℕ → List PartData → Demand → Type 0
MeetsFirstFrom spots k ps demand = (v : ℕ → Bool) (Φ : ℕ → Filter) → SayFilters spots v Φ → IsFirstMet v Φ k ps → holds v demand ≡ true

-- wherever bits say filters behind which symbols compare, they meet the demand
abbrev pub MeetsOrder : List (Option Spot) → OrderData → Demand → Type 0
MeetsOrder spots o demand = (v : ℕ → Bool) (Φ : ℕ → Filter) → SayFilters spots v Φ → IsOrderMet v Φ o → holds v demand ≡ true

-- wherever bits say filters behind which a whole condition is met (none of some bits is set, all parts are met, and
-- symbols compare), they meet the demand
abbrev pub MeetsWhole : List (Option Spot) → AllData → Demand → Type 0
MeetsWhole spots a demand = (v : ℕ → Bool) (Φ : ℕ → Filter) → SayFilters spots v Φ → IsWholeMet v Φ a → holds v demand ≡ true

-- wherever bits say filters behind which the part is the first that differs, or has its trees equal where a bit is set
-- and they meet another demand, they meet the demand
abbrev pub IsFirstDemand : List (Option Spot) → PartData → Demand → Demand → Type 0
IsFirstDemand spots p rest demand = (v : ℕ → Bool) (Φ : ℕ → Filter) → SayFilters spots v Φ
    → (IsSet v Φ p × IsGreater Φ p.left p.right) ⊎ ((IsSet v Φ p → behind Φ p.left ≡ behind Φ p.right) × (holds v rest ≡ true)) → holds v demand ≡ true
