-- Lists that get smaller from the left: with terms that end there is no endless descent, whatever stands behind.
use Rattle.std.proofs.Common.{◌≡◌, ℕ, zero, suc, ◌≤◌, List, [], ◌∷◌, length, take, sym, subst, Some, slice_get, arith}
use Rattle.std.specs.List.{AllByRecursion}
use Rattle.wh_step_laws.specs.Ends.{Ends, ends, StepsIn, step_here, step_there}
use Rattle.wh_order_extended.specs.Many.{Many, stay, go, Plus}

pub ends-plus : {A : Type 0} {R : A → A → Type 0} {a : A} → Ends R a → Ends (Plus R) a
ends-plus {A = A} {R = R} (ends k) = ends (λ c p. along (ends-plus (k p.next p.first)) p.others)
  where
    along : {b c : A} → Ends (Plus R) b → Many R b c → Ends (Plus R) c
    along e stay = e
    along (ends l) (go {b = d} r m) = along (l d (record { next = d; first = r; others = stay })) m

-- a member gets smaller, those before it stay, and those behind it may be any
pub data Smaller {A : Type 0} (R : A → A → Type 0) : List A → List A → Type 0 where
  smaller_here : {a b : A} {l m : List A} → Plus R a b → Smaller R (a ∷ l) (b ∷ m)
  smaller_there : {a : A} {l m : List A} → Smaller R l m → Smaller R (a ∷ l) (a ∷ m)

-- the same among lists of at most n members that all end
pub record SmallerIn {A : Type 0} (R : A → A → Type 0) (n : ℕ) (l m : List A) : Type 0 where
  pub smaller : Smaller R l m
  pub few : length m ≤ n
  pub each : AllByRecursion (Ends R) m

module _ {A : Type 0} {R : A → A → Type 0} (n : ℕ) (all : (l : List A) → length l ≤ n → AllByRecursion (Ends R) l → Ends (SmallerIn R n) l) where
  -- the inner induction: on the list behind the first member
  behind : (a : A) → ((b : A) → Plus R a b → (l : List A) → length l ≤ n → AllByRecursion (Ends R) l → Ends (SmallerIn R (suc n)) (b ∷ l))
      → (l : List A) → Ends (SmallerIn R n) l → Ends (SmallerIn R (suc n)) (a ∷ l)
  behind a h l (ends k) = ends (λ m s. on m s.smaller s.few s.each (λ m' r. behind a h m' (k m' r)))
    where
      on : (m : List A) → Smaller R (a ∷ l) m → length m ≤ suc n → AllByRecursion (Ends R) m
          → ((m' : List A) → SmallerIn R n l m' → Ends (SmallerIn R (suc n)) (a ∷ m')) → Ends (SmallerIn R (suc n)) m
      on [] s few each again = elim s [ ]
      on (b ∷ m) (smaller_here p) few each again = h b p m (omega arith) each.1
      on (b ∷ m) (smaller_there s) few each again = again m (record { smaller = s; few = omega arith; each = each.1 })

  -- the outer one: on the first member
  first : (a : A) → Ends (Plus R) a → (l : List A) → length l ≤ n → AllByRecursion (Ends R) l → Ends (SmallerIn R (suc n)) (a ∷ l)
  first a (ends k) l few each = behind a (λ b p. first b (k b p)) l (all l few each)

no_smaller : {A : Type 0} {R : A → A → Type 0} (n : ℕ) → Ends (SmallerIn R n) []
no_smaller n = ends (λ m s. absurd (on s.smaller))
  where
    on : {A : Type 0} {R : A → A → Type 0} {m : List A} → Smaller R [] m → ⊥
    on s = elim s [ ]

pub ends-smaller : {A : Type 0} {R : A → A → Type 0} (n : ℕ) (l : List A) → length l ≤ n → AllByRecursion (Ends R) l → Ends (SmallerIn R n) l
ends-smaller zero [] few each = no_smaller 0
ends-smaller zero (a ∷ l) few each = absurd (omega arith)
ends-smaller (suc n) [] few each = no_smaller (suc n)
ends-smaller {R = R} (suc n) (a ∷ l) few each = first n (λ l f e. ends-smaller n l f e) a (ends-plus each.0) l (omega arith) each.1

pub steps_smaller : {A : Type 0} {R : A → A → Type 0} {l m : List A} → StepsIn R l m → Smaller R l m
steps_smaller (step_here {b = b} r) = smaller_here (record { next = b; first = r; others = stay })
steps_smaller (step_there s) = smaller_there (steps_smaller s)

-- the member number n gets smaller, and those before it are the same
pub smaller_at : {A : Type 0} {R : A → A → Type 0} (n : ℕ) (l m : List A) (a b : A) → take n l ≡ take n m → slice_get l n ≡ Some a → slice_get m n ≡ Some b → Plus R a b → Smaller R l m
smaller_at n [] m a b e d c p = absurd (cc)
smaller_at n (x ∷ l) [] a b e d c p = absurd (cc)
smaller_at {A = A} {R = R} zero (x ∷ l) (y ∷ m) a b e d c p = subst (λ y. Smaller R (x ∷ l) (y ∷ m)) (sym (one c)) (subst (λ x. Smaller R (x ∷ l) (b ∷ m)) (sym (one d)) (smaller_here p))
  where
    one : {x y : A} → slice_get (x ∷ l) 0 ≡ Some y → x ≡ y
    one e = cc
smaller_at {A = A} {R = R} (suc n) (x ∷ l) (y ∷ m) a b e d c p =
    subst (λ z. Smaller R (x ∷ l) (z ∷ m)) (heads e) (smaller_there (smaller_at n l m a b (tails e) d c p))
  where
    heads : x ∷ take n l ≡ y ∷ take n m → x ≡ y
    heads e = cc

    tails : x ∷ take n l ≡ y ∷ take n m → take n l ≡ take n m
    tails e = cc
