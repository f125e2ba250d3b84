-- The spots of symbols: where their bits stand, by tables of the program.
use Rattle.std.specs.Prelude.{ℕ, ◌+◌, ◌≡◌, ◌<◌, ◌⊎◌, List, Option, None, Some, length, map, get_or, slice_get}
use Rattle.std.specs.Global.{Vec}
use Rattle.wh_types.specs.Erase.{tys}
use Rattle.wh_types.specs.Ty.{Ty}
use Rattle.wh_types.specs.declared.simple_type.SimpleType.{SimpleType}
use Rattle.wh_order_demands.specs.declared.view.Spot.{Spot}

-- the types of the arguments that lists of them in the program stand for
abbrev pub types_in : List (Vec SimpleType) → List (List Ty)
types_in = map (λ (l : Vec SimpleType). tys l.items)

-- the bits of the symbol m have the number n. Symbols below `symbols` have their own numbers; a marked symbol has the
-- number of its place in the list, counted on behind all symbols
abbrev pub IsNumberOf : ℕ → List ℕ → ℕ → ℕ → Type 0
IsNumberOf symbols marked m n =
    ((m ≡ n) × (n < symbols)) ⊎ ((i f : ℕ) × (n ≡ symbols + i) × (slice_get marked i ≡ Some f) × (m ≡ symbols + f))

abbrev pub IsNumber : ℕ → List ℕ → ℕ → Option ℕ → Type 0
IsNumber symbols marked m None = Unit {0}
IsNumber symbols marked m (Some n) = IsNumberOf symbols marked m n

-- the spot of the bits with this number
pub record IsSpotAt (scopes : List (Vec SimpleType)) (firsts : List ℕ) (n : ℕ) (spot : Spot) : Type 0 where
  pub types : Vec SimpleType
  pub is : slice_get scopes n ≡ Some types
  pub same : spot ≡ record { first = get_or firsts n 0; places = length types.items }

abbrev pub IsSpotted : List (Vec SimpleType) → List ℕ → Option ℕ → Option Spot → Type 0
IsSpotted scopes firsts None found = found ≡ None
IsSpotted scopes firsts (Some n) None = Unit {0}
IsSpotted scopes firsts (Some n) (Some spot) = IsSpotAt scopes firsts n spot

-- each spot that there is stands where the bits of its symbol do
abbrev pub AreSpotted : ℕ → List ℕ → List (Vec SimpleType) → List ℕ → List (Option Spot) → Type 0
AreSpotted symbols marked scopes firsts spots = (m : ℕ) (spot : Spot) → slice_get spots m ≡ Some (Some spot)
    → (n : ℕ) × IsNumberOf symbols marked m n × IsSpotAt scopes firsts n spot
