-- Where a walk is, before and behind an item, and at its end.
use Rattle.std.proofs.Common.{Box, Global, ◌≡◌, ◌∷◌, ◌++◌, ℕ, List, [], map, Result, Ok, Err, OnOk, append_assoc, refl, ap, sym, ◌∙◌, subst}
use Rattle.wh_types.specs.Outcome.{MatchOr}
use Rattle.wh_types.specs.declared.want.Or.{Or}
use Rattle.wh_types.specs.declared.want.Or.TheVariants.{NoMemory, Because}
use Rattle.wh_terms.specs.declared.path.Step as taken
use Rattle.wh_system.specs.Systems.{SystemData}
use Rattle.wh_pairs.specs.PairData.{PairData}
use Rattle.wh_cert.specs.Limits.{IsCert}
use Rattle.wh_cert.specs.Written as w
use Rattle.wh_cert.specs.Written.{Cert, yes, no}
use Rattle.wh_cert.specs.Items.{Item, node, step, put, end, items}
use Rattle.wh_polycheck.specs.Small.{with_limits}
use Rattle.wh_no.specs.declared.fault.NoFault.{NoFault}
use Rattle.wh_no.specs.Faults as claims
use Rattle.wh_checker.specs.Faults.{IsFirstFault, of_claim}
use Rattle.wh_checker.specs.declared.checking.Accepted.{Accepted}
use Rattle.wh_checker.specs.declared.rejected.CheckFault.{CheckFault}
use Rattle.wh_checker.specs.declared.rejected.CheckFault.TheVariants.{Rejected}
use Rattle.wh_checker_walk.specs.Walking.{State, Leads, CanCome, IsBlamed, IsRefused, behind_steps}
use Rattle.wh_checker_walk.specs.Standing.{Stand, StandsFor, IsNext, IsNamed, IsThere}
use Rattle.wh_checker_walk.specs.declared.place.Place.{Place}
use Rattle.wh_checker_walk.specs.declared.place.Place.TheVariants as place
use Rattle.wh_checker_walk.specs.declared.walk.Walk.{Walk}
use Rattle.wh_checker_walk.specs.declared.nodes.Nodes.{Nodes}
use Rattle.wh_checker_walk.specs.declared.steps.Steps.{Steps}
use Rattle.wh_checker_walk.specs.declared.puts.Puts.{Puts}

-- the answer of an item where the walk is there
abbrev pub Tells : SystemData → List PairData → Place → Item → Result Place (Or CheckFault) → Type 0
Tells d ps p i r = MatchOr r (λ new. Leads (Stand d ps p) i (Stand d ps new)) (λ f. Leads (Stand d ps p) i (IsBlamed d ps f))

-- faults of a NO certificate

refused_blamed : (d : SystemData) (ps : List PairData) (c : Cert) (f : NoFault) (g : CheckFault) → g ≡ Rejected (of_claim f)
    → claims.IsFirstFault d c f → IsFirstFault with_limits d ps c g
refused_blamed d ps (no t steps path puts) f g is first = (f, is, first)
refused_blamed d ps (yes version ranks pairs lines) f g is first = absurd first

pub named_tells : (d : SystemData) (ps : List PairData) (P : State) (i : Item) (r : Result Place (Or NoFault)) (s : Result Place (Or CheckFault))
    → IsNamed r s → MatchOr r (λ new. Leads P i (Stand d ps new)) (λ f. Leads P i (IsRefused d f))
    → MatchOr s (λ new. Leads P i (Stand d ps new)) (λ f. Leads P i (IsBlamed d ps f))
named_tells d ps P i (Ok p) (Ok q) is h = subst (λ x. Leads P i (Stand d ps x)) (sym is) h
named_tells d ps P i (Ok p) (Err NoMemory) is h = absurd is
named_tells d ps P i (Ok p) (Err (Because g)) is h = absurd is
named_tells d ps P i (Err NoMemory) (Ok q) is h = absurd is
named_tells d ps P i (Err NoMemory) (Err NoMemory) is h = tt
named_tells d ps P i (Err NoMemory) (Err (Because g)) is h = absurd is
named_tells d ps P i (Err (Because f)) (Ok q) is h = absurd is
named_tells d ps P i (Err (Because f)) (Err NoMemory) is h = absurd is
named_tells d ps P i (Err (Because f)) (Err (Because g)) is h = λ c rest cert p. refused_blamed d ps c f g is (h c rest cert p)

-- at the end, and without memory, no item can come

pub no_other_place : (d : SystemData) (ps : List PairData) (p : Place) (i : Item) → (p ≡ place.Before → ⊥)
    → ((k : Box Nodes Global) → p ≡ place.Nodes k → ⊥) → ((k : Box Steps Global) → p ≡ place.Steps k → ⊥)
    → ((k : Box Puts Global) → p ≡ place.Puts k → ⊥) → ((f : CheckFault) → p ≡ place.Blamed f → ⊥) → CanCome (Stand d ps p) i → ⊥
no_other_place d ps place.Before i before nodes steps puts blamed come = before refl
no_other_place d ps (place.Nodes k) i before nodes steps puts blamed come = nodes k refl
no_other_place d ps (place.Steps k) i before nodes steps puts blamed come = steps k refl
no_other_place d ps (place.Puts k) i before nodes steps puts blamed come = puts k refl
no_other_place d ps (place.Blamed f) i before nodes steps puts blamed come = blamed f refl
no_other_place d ps (place.Whole a) i before nodes steps puts blamed (c, rest, cert, whole) = let none : i ∷ rest ≡ [] = whole.0 in absurd (cc)
no_other_place d ps place.Lost i before nodes steps puts blamed (c, rest, cert, stand) = stand

-- the walk and its place

pub can_come : (d : SystemData) (ps : List PairData) (walk : Walk) (i : Item) → IsNext d ps walk i → CanCome (Stand d ps walk.at) i
can_come d ps walk i (is, rest, c, cert, stands, e) = (c, rest, cert, stands c (i ∷ rest) cert e)

pub pushed : (d : SystemData) (ps : List PairData) (old new : Walk) (i : Item) → Leads (Stand d ps old.at) i (Stand d ps new.at)
    → (is : List Item) → StandsFor d ps old is → StandsFor d ps new (is ++ i ∷ [])
pushed d ps old new i on is stands = λ c rest cert e.
    on c rest cert (stands c (i ∷ rest) cert (e ∙ append_assoc is (i ∷ []) rest))

-- what an item told, where the walk has gone there
pub told_there : (d : SystemData) (ps : List PairData) (old new : Walk) (i : Item) (told : Result Place (Or CheckFault)) → Tells d ps old.at i told
    → IsThere told new.at → (is : List Item) → StandsFor d ps old is → StandsFor d ps new (is ++ i ∷ [])
told_there d ps old new i (Ok p) tells there =
    pushed d ps old new i (subst (λ q. Leads (Stand d ps old.at) i (Stand d ps q)) (sym there) tells)
told_there d ps old new i (Err NoMemory) tells there = absurd there
told_there d ps old new i (Err (Because f)) tells there =
    pushed d ps old new i (subst (λ q. Leads (Stand d ps old.at) i (Stand d ps q)) (sym there) tells)

pub where_ok : {T E : Type 0} (r : Result T E) (P Q : Type 0) → OnOk r P → (P → Q) → OnOk r Q
where_ok (Ok x) P Q p on = on p
where_ok (Err e) P Q p on = tt

-- the end

behind_all : (is : List Item) → is ≡ is ++ []
behind_all [] = refl
behind_all (i ∷ is) = ap (λ l. i ∷ l) (behind_all is)

pub at_end : (d : SystemData) (ps : List PairData) (walk : Walk) (c : Cert) → IsCert c → StandsFor d ps walk (items c) → Stand d ps walk.at c []
at_end d ps walk c cert stands = stands c [] cert (behind_all (items c))

some_items : (c : Cert) → [] ≡ items c → ⊥
some_items (yes version ranks pairs lines) e = absurd (cc)
some_items (no t steps path puts) e = absurd (cc)

some_nodes : (left : List w.Node) → [] ≡ map node left ++ end ∷ [] → ⊥
some_nodes [] e = absurd (cc)
some_nodes (x ∷ left) e = absurd (cc)

some_steps : (left : List taken.Step) (path : List ℕ) (puts : List w.Put) → [] ≡ map step left ++ behind_steps path puts → ⊥
some_steps [] path puts e = absurd (cc)
some_steps (x ∷ left) path puts e = absurd (cc)

some_puts : (left : List w.Put) → [] ≡ map put left ++ end ∷ [] → ⊥
some_puts [] e = absurd (cc)
some_puts (x ∷ left) e = absurd (cc)

pub no_other_end : (d : SystemData) (ps : List PairData) (p : Place) (c : Cert) → Stand d ps p c [] → ((f : CheckFault) → p ≡ place.Blamed f → ⊥)
    → ((a : Accepted) → p ≡ place.Whole a → ⊥) → ⊥
no_other_end d ps place.Before c stand not_blamed not_whole = some_items c stand
no_other_end d ps (place.Nodes k) (yes version ranks pairs lines) stand not_blamed not_whole = some_nodes stand.left stand.rest_is
no_other_end d ps (place.Nodes k) (no t steps path puts) stand not_blamed not_whole = stand
no_other_end d ps (place.Steps k) (yes version ranks pairs lines) stand not_blamed not_whole = stand
no_other_end d ps (place.Steps k) (no t steps path puts) stand not_blamed not_whole = some_steps stand.left path puts stand.rest_is
no_other_end d ps (place.Puts k) (yes version ranks pairs lines) stand not_blamed not_whole = stand
no_other_end d ps (place.Puts k) (no t steps path puts) stand not_blamed not_whole = some_puts stand.left stand.rest_is
no_other_end d ps (place.Blamed f) c stand not_blamed not_whole = not_blamed f refl
no_other_end d ps (place.Whole a) c stand not_blamed not_whole = not_whole a refl
no_other_end d ps place.Lost c stand not_blamed not_whole = stand
