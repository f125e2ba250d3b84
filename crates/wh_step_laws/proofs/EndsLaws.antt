-- Accessibility: next members, simulation, and lists of accessible members.
use Rattle.std.proofs.Common.{◌≡◌, List, [], ◌∷◌, refl, sym, subst}
use Rattle.std.specs.List.{AllByRecursion}
use Rattle.wh_step_laws.specs.Ends.{Ends, ends, StepsIn, step_here, step_there}

pub ends-next : {A : Type 0} {R : A → A → Type 0} {a : A} (b : A) → Ends R a → R a b → Ends R b
ends-next b (ends h) r = h b r

-- what R simulates ends where R does
pub ends-simulated : {A B : Type 0} {R : A → A → Type 0} {Q : B → B → Type 0} (f : B → A) → ((b c : B) → Q b c → R (f b) (f c)) → (a : A) (b : B) → a ≡ f b → Ends R a → Ends Q b
ends-simulated {R = R} f h a b e (ends k) = ends (λ c q. ends-simulated f h (f c) c refl (k (f c) (subst (λ x. R x (f c)) (sym e) (h b c q))))

-- The member at the front ends, and so does the rest: an induction on the first, and within it one on the second.
front_step : {A : Type 0} {R : A → A → Type 0} {a : A} {l : List A} → ((b : A) → R a b → Ends (StepsIn R) (b ∷ l)) → ((m : List A) → StepsIn R l m → Ends (StepsIn R) (a ∷ m))
    → (m : List A) → StepsIn R (a ∷ l) m → Ends (StepsIn R) m
front_step h k m (step_here {b = b} r) = h b r
front_step h k m (step_there {m = m'} s) = k m' s

front_in : {A : Type 0} {R : A → A → Type 0} {a : A} {l : List A} → ((b : A) → R a b → (m : List A) → Ends (StepsIn R) m → Ends (StepsIn R) (b ∷ m)) → Ends (StepsIn R) l → Ends (StepsIn R) (a ∷ l)
front_in {l = l} h (ends k) = ends (front_step (λ b r. h b r l (ends k)) (λ m s. front_in h (k m s)))

pub ends-cons : {A : Type 0} {R : A → A → Type 0} {a : A} {l : List A} → Ends R a → Ends (StepsIn R) l → Ends (StepsIn R) (a ∷ l)
ends-cons (ends h) e = front_in (λ b r m k. ends-cons (h b r) k) e

no_member_steps : {A : Type 0} {R : A → A → Type 0} (m : List A) → StepsIn R [] m → Ends (StepsIn R) m
no_member_steps m s = elim s [ ]

-- a list of accessible members is accessible, where one member steps at a time
pub ends-list : {A : Type 0} {R : A → A → Type 0} (l : List A) → AllByRecursion (Ends R) l → Ends (StepsIn R) l
ends-list [] h = ends no_member_steps
ends-list (a ∷ l) h = ends-cons h.0 (ends-list l h.1)
