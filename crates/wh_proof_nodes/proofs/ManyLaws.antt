-- Sequences of steps: joined, lifted, and of the members of lists.
use Rattle.std.proofs.Common.{◌≡◌, ℕ, zero, suc, List, ◌⊎◌, inl, inr, Some, slice_get, refl, sym, subst}
use Rattle.wh_step_laws.specs.Ends.{Ends, ends, StepsIn, step_here, step_there}
use Rattle.wh_proof_calls.specs.CallOrders.{Orders}
use Rattle.wh_proof_nodes.specs.Many.{Many, stay, go}
use Rattle.wh_pairs.proofs.ByPlace.{some_one}

pub many-join : {A : Type 0} {R : A → A → Type 0} {a b c : A} → Many R a b → Many R b c → Many R a c
many-join stay m = m
many-join (go r l) m = go r (many-join l m)

pub many-one : {A : Type 0} {R : A → A → Type 0} {a b : A} → R a b → Many R a b
many-one r = go r stay

-- what each step gives, the sequence gives
pub many-map : {A : Type 0} {R Q : A → A → Type 0} {a b : A} → ((x y : A) → R x y → Q x y) → Many R a b → Many Q a b
many-map h stay = stay
many-map h (go {a = a} {b = b} r m) = go (h a b r) (many-map h m)

pub steps_in-map : {A : Type 0} {R Q : A → A → Type 0} {l m : List A} → ((x y : A) → R x y → Q x y) → StepsIn R l m → StepsIn Q l m
steps_in-map h (step_here {a = a} {b = b} r) = step_here (h a b r)
steps_in-map h (step_there s) = step_there (steps_in-map h s)

-- one or more steps
abbrev pub Plus : {A : Type 0} → (A → A → Type 0) → A → A → Type 0
Plus {A} R a b = (c : A) × R a c × Many R c b

pub plus-join : {A : Type 0} {R : A → A → Type 0} {a b c : A} → Plus R a b → Plus R b c → Plus R a c
plus-join (x, r, m) (y, s, l) = (x, r, many-join m (go s l))

-- the orders of what one or more steps lead to, and zero or more
abbrev pub by_steps : {A : Type 0} → (A → A → Type 0) → Orders A
by_steps R = record { less = Plus R; not_more = Many R }

pub many-plus : {A : Type 0} {R : A → A → Type 0} {a b c : A} → Many R a b → Plus R b c → Plus R a c
many-plus stay p = p
many-plus (go {b = b} r m) (x, s, l) = (b, r, many-join m (go s l))

many_ends : {A : Type 0} {R : A → A → Type 0} {a b : A} → Many R a b → Ends (Plus R) a → Ends (Plus R) b
many_ends stay e = e
many_ends (go {b = c} {c = b} r m) (ends k) = k b (c, r, m)

-- where a relation ends, so does one or more steps of it
pub ends-plus : {A : Type 0} {R : A → A → Type 0} {a : A} → Ends R a → Ends (Plus R) a
ends-plus (ends k) = ends (λ b (c, r, m). many_ends m (ends-plus (k c r)))

-- where one member of a list steps, each member stays or steps
pub step_at : {A : Type 0} {R : A → A → Type 0} {ts us : List A} (i : ℕ) (t : A) → StepsIn R ts us → slice_get ts i ≡ Some t
    → (u : A) × (slice_get us i ≡ Some u) × ((t ≡ u) ⊎ R t u)
step_at {R = R} zero t (step_here {a = a} {b = b} r) e = (b, refl, inr (subst (λ x. R x b) (some_one refl e) r))
step_at (suc i) t (step_here r) e = (t, e, inl refl)
step_at zero t (step_there s) e = (t, e, inl refl)
step_at (suc i) t (step_there s) e = step_at i t s e

pub many_at : {A : Type 0} {R : A → A → Type 0} {ts us : List A} (i : ℕ) (t u : A) → Many (StepsIn R) ts us → slice_get ts i ≡ Some t
    → slice_get us i ≡ Some u → Many R t u
many_at {R = R} i t u stay d e = subst (Many R t) (some_one d e) stay
many_at {R = R} i t u (go s m) d e =
    let (v, at, h) = step_at i t s d in
    elim h [
      | inl same ↦ subst (λ x. Many R x u) (sym same) (many_at i v u m at e)
      | inr r ↦ go r (many_at i v u m at e)
    ]
