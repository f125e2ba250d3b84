-- The answer of a part of the check, as that of the whole.
use Rattle.std.proofs.Common.{◌≡◌, ◌∷◌, Result, Ok, Err, IsErrAnd, sym, subst}
use Rattle.wh_types.specs.Outcome.{IfBecause, MatchOr}
use Rattle.wh_types.specs.declared.want.Or.{Or}
use Rattle.wh_types.specs.declared.want.Or.TheVariants.{NoMemory, Because}
use Rattle.wh_cert.specs.Items.{Item}
use Rattle.wh_checker_walk.specs.Walking.{State, Leads, Stays}
use Rattle.wh_checker.proofs.GoLemmas.{because_one}

-- the cause of the part
pub or_on : {T U E : Type 0} (r : Result T (Or E)) (e : Or E) (P : U → Type 0) (O : T → Type 0) (Q R : E → Type 0)
    → IsErrAnd r (λ x. x ≡ e) → MatchOr (Err e) P Q → ((f : E) → Q f → R f) → MatchOr r O R
or_on (Ok x) e P O Q R same h k = absurd same
or_on (Err NoMemory) e P O Q R same h k = tt
or_on (Err (Because f)) NoMemory P O Q R same h k = absurd (cc)
or_on (Err (Because f)) (Because g) P O Q R same h k = k f (subst Q (sym (because_one same)) h)

-- so, where its contract speaks of the cause alone
pub cause_on : {T E : Type 0} (r : Result T (Or E)) (e : Or E) (O : T → Type 0) (Q R : E → Type 0)
    → IsErrAnd r (λ x. x ≡ e) → IfBecause {T = Unit {0}} (Err e) Q → ((f : E) → Q f → R f) → MatchOr r O R
cause_on (Ok x) e O Q R same h k = absurd same
cause_on (Err NoMemory) e O Q R same h k = tt
cause_on (Err (Because f)) NoMemory O Q R same h k = absurd (cc)
cause_on (Err (Because f)) (Because g) O Q R same h k = k f (subst Q (sym (because_one same)) h)

-- the cause that a match found
pub cause_is : {T E : Type 0} (e : Or E) (x : E) (P : T → Type 0) (Q : E → Type 0) → e ≡ Because x → MatchOr (Err e) P Q → Q x
cause_is NoMemory x P Q is h = absurd (cc)
cause_is (Because y) x P Q is h = subst Q (because_one is) h

-- more follows from the answer
pub or_more : {T E : Type 0} (r : Result T (Or E)) (P O : T → Type 0) (Q R : E → Type 0) → MatchOr r P Q → ((x : T) → P x → O x)
    → ((f : E) → Q f → R f) → MatchOr r O R
or_more (Ok x) P O Q R h j k = j x h
or_more (Err NoMemory) P O Q R h j k = tt
or_more (Err (Because f)) P O Q R h j k = k f h

-- an item, and then something more
pub leads_then : (P Q R : State) (i : Item) → Leads P i Q → Stays Q R → Leads P i R
leads_then P Q R i on stays = λ c rest cert p. stays c rest cert (on c rest cert p)

pub stays_then : (P Q R : State) (i : Item) → Stays P Q → Leads Q i R → Leads P i R
stays_then P Q R i stays on = λ c rest cert p. on c rest cert (stays c (i ∷ rest) cert p)
