-- The answers of the circuit over the bits of orders, and the demands that it is made of.
use Rattle.std.specs.Prelude.{ℕ, ◌≡◌, ◌<◌, Bool, List, Option, None, Some, false, true, length, get_or, slice_get}
use Rattle.std.specs.Global.{Box}
use Rattle.wh_types.specs.Ty.{Ty}
use Rattle.wh_terms.specs.Tree.{Tm}
use Rattle.wh_terms.specs.Erase.{tm}
use Rattle.wh_terms.specs.declared.term.Term.{Term}
use Rattle.wh_reduction_pairs.specs.TaskData.{TaskData}
use Rattle.wh_terms.specs.Rules.{RewriteRule}
use Rattle.wh_pairs.specs.PairData.{PairData}
use Rattle.wh_order_extended.specs.ExtendedSides.{extended_side}
use Rattle.wh_order.specs.TreeSides.{extended_pair_side}
use Rattle.wh_order_inference.specs.Filters.{Filter}
use Rattle.wh_order_node.specs.Filterings.{FilteringData, filters_of}
use Rattle.wh_order_demands.specs.Demands.{holds}
use Rattle.wh_order_demands.specs.Claims.{Holds, SayFilters}
use Rattle.wh_order_demands.specs.declared.claim.Claim.{Claim}
use Rattle.wh_order_demands.specs.declared.claim.Claim.TheVariants.{AtLeast}
use Rattle.wh_order_demands.specs.declared.demand.Demand.{Demand}
use Rattle.wh_order_demands.specs.declared.view.Spot.{Spot}
use Rattle.wh_order_space.specs.Bits.{first_bit}
use Rattle.wh_order_space.specs.Space.{LetsGo, HasNoOrder}
use Rattle.wh_order_space.specs.declared.orders.Circuited.{Circuited}
use Rattle.wh_order_space.specs.declared.orders.Circuited.TheVariants as circuited

-- no order that is tried lets a pair of the set go; of the other answers nothing is said
abbrev pub IsCircuited : TaskData → Circuited → Type 0
IsCircuited T circuited.Nothing = HasNoOrder T
IsCircuited T _ = Unit {0}

-- for each symbol the number of its first bit, where each has w bits beside two for each place
abbrev pub AreFirstBits : ℕ → List (List Ty) → List ℕ → Type 0
AreFirstBits w scopes firsts = (n : ℕ) → n < length scopes → get_or firsts n 0 ≡ first_bit w scopes n

-- wherever bits say the filters of an order that lets a pair go, they meet the demand
abbrev pub IsDemandOfSet : TaskData → List (Option Spot) → Demand → Type 0
IsDemandOfSet T spots demand = (v : ℕ → Bool) (D : FilteringData) (n : ℕ) → SayFilters spots v (filters_of T.symbols D) → LetsGo T D n
    → holds v demand ≡ true

-- wherever bits say the filters of an order that lets one of the first k pairs of the set go, they meet the demand
abbrev pub IsDemandOfSome : TaskData → List (Option Spot) → ℕ → Demand → Type 0
IsDemandOfSome T spots k demand = (v : ℕ → Bool) (D : FilteringData) (j n : ℕ) → SayFilters spots v (filters_of T.symbols D) → LetsGo T D n
    → j < k → slice_get T.set j ≡ Some n → holds v demand ≡ true

-- where the claim holds of the two sides of the pair with this number, if there is one, the bits meet the demand
abbrev pub IsClaimOfPair : TaskData → List (Option Spot) → Claim → ℕ → Demand → Type 0
IsClaimOfPair T spots c k demand = (v : ℕ → Bool) (Φ : ℕ → Filter) → SayFilters spots v Φ
    → ((p : PairData) → slice_get T.pairs k ≡ Some p → Holds Φ c (extended_pair_side T.symbols p false) (extended_pair_side T.symbols p true))
    → holds v demand ≡ true

-- where the left side of the rule with this number is at least the right one, if there is such a rule, the bits meet
-- the demand
abbrev pub IsClaimOfRule : TaskData → List (Option Spot) → ℕ → Demand → Type 0
IsClaimOfRule T spots k demand = (v : ℕ → Bool) (Φ : ℕ → Filter) → SayFilters spots v Φ
    → ((r : RewriteRule) → slice_get T.rules k ≡ Some r → Holds Φ AtLeast (extended_side T.symbols r r.left) (extended_side T.symbols r r.right))
    → holds v demand ≡ true

-- the side is this tree, where there is one
abbrev pub IsSide : Tm → Option (Box Term) → Type 0
IsSide t None = Unit {0}
IsSide t (Some side) = tm side.value ≡ t
