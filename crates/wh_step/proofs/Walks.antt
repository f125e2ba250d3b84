-- Walks by any relation: loops, bounds, and what stands before and after a walk.
use Rattle.std.proofs.Common.{◌≡◌, ℕ, zero, suc, ◌<◌, ◌≤◌, List, [], ◌∷◌, length, refl, ap, sym, subst, arith}
use Rattle.wh_step.specs.Reduction.{Walk, last_of}

-- for every number there is a walk of that length
abbrev pub Endless : {A : Type 0} → (A → A → Type 0) → A → Type 0
Endless {A = A} R a = (n : ℕ) → (l : List A) × Walk R a l × (length l ≡ n)

no_walk : {A : Type 0} (R : A → A → Type 0) (a : A) → (l : List A) × Walk R a l × (length l ≡ 0)
no_walk R a = ([], tt, refl)

longer : {A : Type 0} (R : A → A → Type 0) (a b : A) (n : ℕ) → R a b → (l : List A) × Walk R b l × (length l ≡ n) → (l : List A) × Walk R a l × (length l ≡ suc n)
longer R a b n r (l, w, e) = (b ∷ l, (r, w), ap suc e)

-- from any point of a loop: on to its end, and then round again
around : {A : Type 0} (R : A → A → Type 0) (a b : A) (l : List A) → R a b → Walk R b l → last_of b l ≡ a
    → (n : ℕ) (c : A) (m : List A) → Walk R c m → last_of c m ≡ a → (k : List A) × Walk R c k × (length k ≡ n)
around R a b l r w e zero c m v d = no_walk R c
around R a b l r w e (suc n) c (x ∷ m) v d = longer R c x n v.0 (around R a b l r w e n x m v.1 d)
around R a b l r w e (suc n) c [] v d = longer R c b n (subst (λ x. R x b) (sym d) r) (around R a b l r w e n b l w e)

-- a walk of at least one step back to its beginning can be taken any number of times
pub loop_endless : {A : Type 0} (R : A → A → Type 0) (a : A) (l : List A) → Walk R a l → 0 < length l → last_of a l ≡ a → Endless R a
loop_endless R a [] w h e n = absurd (omega arith)
loop_endless R a (b ∷ l) w h e n = around R a b l w.0 w.1 e n a [] tt refl

-- what a walk leads to goes on for ever: so does its beginning
pub endless_before : {A : Type 0} (R : A → A → Type 0) (a : A) (l : List A) → Walk R a l → Endless R (last_of a l) → Endless R a
endless_before R a [] w h n = h n
endless_before R a (b ∷ l) w h zero = no_walk R a
endless_before R a (b ∷ l) w h (suc n) = longer R a b n w.0 (endless_before R b l w.1 h n)

-- a bound on the walks from all next members gives one
pub bounded_by_next : {A : Type 0} (R : A → A → Type 0) (a : A) (n : ℕ) → ((b : A) → R a b → (l : List A) → Walk R b l → length l ≤ n) → (l : List A) → Walk R a l → length l ≤ suc n
bounded_by_next R a n h [] w = omega arith
bounded_by_next R a n h (b ∷ l) w = let k : length l ≤ n = h b w.0 l w.1 in omega arith

-- and a bound on the walks from a is one for each member that a walk from a leads to
pub bounded_next : {A : Type 0} (R : A → A → Type 0) (a b : A) (n : ℕ) → R a b → ((l : List A) → Walk R a l → length l ≤ n) → (l : List A) → Walk R b l → length l ≤ n
bounded_next R a b n r h l w = let k : suc (length l) ≤ n = h (b ∷ l) (r, w) in omega arith
