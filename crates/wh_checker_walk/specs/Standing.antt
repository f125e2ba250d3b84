-- For which items of a certificate a walk stands, which keeps none of them (ours).
use Rattle.std.specs.Prelude.{◌≡◌, List, ◌∷◌, ◌++◌, Result, Ok, Err}
use Rattle.wh_types.specs.declared.want.Or.{Or}
use Rattle.wh_types.specs.declared.want.Or.TheVariants.{NoMemory, Because}
use Rattle.wh_system.specs.Systems.{SystemData}
use Rattle.wh_pairs.specs.PairData.{PairData}
use Rattle.wh_cert.specs.Limits.{IsCert}
use Rattle.wh_cert.specs.Written.{Cert}
use Rattle.wh_cert.specs.Items.{Item, items}
use Rattle.wh_checker_walk.specs.Walking.{State, HasNothing, AtNodes, AtSteps, AtPuts, IsBlamed, IsWhole}
use Rattle.wh_checker_walk.specs.declared.place.Place.{Place}
use Rattle.wh_checker_walk.specs.declared.place.Place.TheVariants as place
use Rattle.wh_checker_walk.specs.declared.walk.Walk.{Walk}
use Rattle.wh_no.specs.declared.fault.NoFault.{NoFault}
use Rattle.wh_checker.specs.Faults.{of_claim}
use Rattle.wh_checker.specs.declared.rejected.CheckFault.{CheckFault}
use Rattle.wh_checker.specs.declared.rejected.CheckFault.TheVariants.{Rejected}

abbrev pub Stand : SystemData → List PairData → Place → State
Stand d ps place.Before = HasNothing
Stand d ps (place.Nodes k) = AtNodes d ps k.value
Stand d ps (place.Steps k) = AtSteps d k.value
Stand d ps (place.Puts k) = AtPuts d k.value
Stand d ps (place.Blamed f) = IsBlamed d ps f
Stand d ps (place.Whole a) = IsWhole d ps a
Stand d ps place.Lost = λ c rest. ⊥

-- the walk stands for these items: it is where they lead in each certificate that begins with them
abbrev pub StandsFor : SystemData → List PairData → Walk → List Item → Type 0
StandsFor d ps walk is = (c : Cert) (rest : List Item) → IsCert c → items c ≡ is ++ rest → Stand d ps walk.at c rest

-- there is a certificate for whose first items the walk stands, with this one as the next
abbrev pub IsNext : SystemData → List PairData → Walk → Item → Type 0
IsNext d ps walk i = (is : List Item) × (rest : List Item) × (c : Cert) × IsCert c × StandsFor d ps walk is × (items c ≡ is ++ i ∷ rest)

-- a place is the same place, and the fault of a NO certificate has its name
abbrev pub IsNamed : Result Place (Or NoFault) → Result Place (Or CheckFault) → Type 0
IsNamed (Ok p) (Ok q) = q ≡ p
IsNamed (Err NoMemory) (Err NoMemory) = Unit {0}
IsNamed (Err (Because f)) (Err (Because g)) = g ≡ Rejected (of_claim f)
IsNamed _ _ = ⊥

-- the place to which an item led, or the fault that it has
abbrev pub IsThere : Result Place (Or CheckFault) → Place → Type 0
IsThere (Ok p) q = q ≡ p
IsThere (Err NoMemory) q = ⊥
IsThere (Err (Because f)) q = q ≡ place.Blamed f
