-- Demands that the bits of every order meet, whatever the order is.
use Rattle.std.specs.Prelude.{ℕ, ◌+◌, ◌≡◌, ◌<◌, Bool, true, false, not, nat_lt, List, Option, None, Some}
use Rattle.wh_order_inference.specs.Filters.{Filter}
use Rattle.wh_order_extended.specs.Filtered.{precedences}
use Rattle.wh_order_demands.specs.declared.demand.Demand.{Demand}
use Rattle.wh_order_demands.specs.declared.view.Spot.{Spot}
use Rattle.wh_order_demands.specs.Demands.{holds}
use Rattle.wh_order_demands.specs.Claims.{Says, SayFilters}

-- wherever bits say filters and how precedences compare, they meet the demand (ours)
abbrev pub IsOrderDemand : List (Option Spot) → Demand → Type 0
IsOrderDemand spots demand = (v : ℕ → Bool) (Φ : ℕ → Filter) → SayFilters spots v Φ → holds v demand ≡ true

-- the bit is set where the precedence of f is at least that of g; or there is no such bit
abbrev pub IsBitBetween : List (Option Spot) → ℕ → ℕ → Option ℕ → Type 0
IsBitBetween spots f g None = Unit {0}
IsBitBetween spots f g (Some x) = (v : ℕ → Bool) (Φ : ℕ → Filter) → SayFilters spots v Φ → v x ≡ not (nat_lt (precedences Φ f) (precedences Φ g))

-- wherever the bits of a symbol say its filter, they meet the demand
abbrev pub IsFilterDemand : Spot → Demand → Type 0
IsFilterDemand spot demand = (v : ℕ → Bool) (φ : Filter) → Says v spot.first spot.places φ → holds v demand ≡ true

-- wherever the bits of a symbol say its filter, they meet the demand; where it has no bits, all bits do
abbrev pub IsItemDemand : Option Spot → Demand → Type 0
IsItemDemand None demand = (v : ℕ → Bool) → holds v demand ≡ true
IsItemDemand (Some spot) demand = IsFilterDemand spot demand

-- where none of `count` bits from `first` on is set, they meet the demand
abbrev pub IsNoneSet : (first count : ℕ) → Demand → Type 0
IsNoneSet first count demand = (v : ℕ → Bool) → ((i : ℕ) → i < count → v (first + i) ≡ false) → holds v demand ≡ true
