-- Computability does not depend on the height of the recursion on ranks, and what it is at a sort and at an arrow.
use Rattle.std.proofs.Common.{◌≡◌, ℕ, zero, suc, ◌+◌, ◌≤◌, max, [], ap, ap₂, sym, ◌∙◌, arith, lt-ltb, le-ltb}
use Rattle.std.proofs.Math.Path.{fun_ext}
use Rattle.wh_types.specs.Ty.{Ty, sort, ◌⇒◌}
use Rattle.wh_terms.specs.Tree.{Tm, app}
use Rattle.wh_terms.specs.Typing.{Symbols, Typed}
use Rattle.wh_step_laws.specs.Ranks.{RanksBelow, above_ranks}
use Rattle.wh_step_laws.specs.Computable.{ComputableAt, by_test, ComputableBelow, Computable}

pub ranks-more : (rank : ℕ → ℕ) (k m : ℕ) (a : Ty) → k ≤ m → RanksBelow rank k a → RanksBelow rank m a
ranks-more rank k m (sort s) h r = omega arith
ranks-more rank k m (a ⇒ b) h r = (ranks-more rank k m a h r.0, ranks-more rank k m b h r.1)

pub ranks_above : (rank : ℕ → ℕ) (a : Ty) → RanksBelow rank (above_ranks rank a) a
ranks_above rank (sort s) = omega arith
ranks_above rank (a ⇒ b) =
    let m : ℕ = above_ranks rank a in
    let n : ℕ = above_ranks rank b in
    (ranks-more rank m (max m n) a (omega arith) (ranks_above rank a), ranks-more rank n (max m n) b (omega arith) (ranks_above rank b))

-- no type has all its ranks below 0
ranks_none : (rank : ℕ → ℕ) (a : Ty) → RanksBelow rank 0 a → ⊥
ranks_none rank (sort s) h = omega arith
ranks_none rank (a ⇒ b) h = ranks_none rank a h.0

-- terms of type a ⇒ b that take P to Q
abbrev pub Takes : Symbols → Ty → Ty → (Tm → Type 0) → (Tm → Type 0) → Tm → Type 0
Takes S a b P Q t = Typed S [] [] t (a ⇒ b) × ((u : Tm) → P u → Q (app t u))

pub takes_same : (S : Symbols) (a b : Ty) {P P' Q Q' : Tm → Type 0} → P ≡ P' → Q ≡ Q' → Takes S a b P Q ≡ Takes S a b P' Q'
takes_same S a b p q = ap₂ {C = Tm → Type 0} (λ P Q. Takes S a b P Q) p q

-- one rank more does not matter
below-more : (S : Symbols) (rank : ℕ → ℕ) (R : Tm → Tm → Type 0) (k : ℕ) (a : Ty) → RanksBelow rank k a → ComputableBelow S rank R (suc k) a ≡ ComputableBelow S rank R k a
below-more S rank R k (sort s) h = fun_ext (λ t. ap {B = Type 0} (λ b. by_test b (ComputableBelow S rank R k (sort s) t) (ComputableAt S rank R (ComputableBelow S rank R k) s t)) (lt-ltb (rank s) k h))
below-more S rank R zero (a ⇒ b) h = absurd (ranks_none rank a h.0)
below-more S rank R (suc k) (a ⇒ b) h = takes_same S a b (below-more S rank R (suc k) a h.0) (below-more S rank R (suc k) b h.1)

below-add : (S : Symbols) (rank : ℕ → ℕ) (R : Tm → Tm → Type 0) (d k : ℕ) (a : Ty) → RanksBelow rank k a → ComputableBelow S rank R (d + k) a ≡ ComputableBelow S rank R k a
below-add S rank R zero k a h = ap {B = Tm → Type 0} (λ n. ComputableBelow S rank R n a) (let e : 0 + k ≡ k = omega arith in e)
below-add S rank R (suc d) k a h =
    ap {B = Tm → Type 0} (λ n. ComputableBelow S rank R n a) (let e : suc d + k ≡ suc (d + k) = omega arith in e)
    ∙ below-more S rank R (d + k) a (ranks-more rank k (d + k) a (omega arith) h) ∙ below-add S rank R d k a h

-- any height above the ranks will do
pub below_any : (S : Symbols) (rank : ℕ → ℕ) (R : Tm → Tm → Type 0) (j k : ℕ) (a : Ty) → RanksBelow rank j a → RanksBelow rank k a → ComputableBelow S rank R j a ≡ ComputableBelow S rank R k a
below_any S rank R j k a h l =
    sym (below-add S rank R k j a h) ∙ ap {B = Tm → Type 0} (λ n. ComputableBelow S rank R n a) (let e : k + j ≡ j + k = omega arith in e) ∙ below-add S rank R j k a l

pub below_computable : (S : Symbols) (rank : ℕ → ℕ) (R : Tm → Tm → Type 0) (k : ℕ) (a : Ty) → RanksBelow rank k a → ComputableBelow S rank R k a ≡ Computable S rank R a
below_computable S rank R k a h = below_any S rank R k (above_ranks rank a) a h (ranks_above rank a)

-- what computability is at an arrow
pub computable-arrow : (S : Symbols) (rank : ℕ → ℕ) (R : Tm → Tm → Type 0) (a b : Ty) → Computable S rank R (a ⇒ b) ≡ Takes S a b (Computable S rank R a) (Computable S rank R b)
computable-arrow S rank R a b =
    let k : ℕ = above_ranks rank (a ⇒ b) in
    let h = ranks-more rank k (suc k) (a ⇒ b) (omega arith) (ranks_above rank (a ⇒ b)) in
    sym (below_computable S rank R (suc k) (a ⇒ b) h)
    ∙ takes_same S a b (below_computable S rank R (suc k) a h.0) (below_computable S rank R (suc k) b h.1)

-- and at a sort
pub computable-sort : (S : Symbols) (rank : ℕ → ℕ) (R : Tm → Tm → Type 0) (s : ℕ) → Computable S rank R (sort s) ≡ ComputableAt S rank R (ComputableBelow S rank R (rank s)) s
computable-sort S rank R s =
    let low : Ty → Tm → Type 0 = ComputableBelow S rank R (rank s) in
    fun_ext (λ t. ap {B = Type 0} (λ b. by_test b (low (sort s) t) (ComputableAt S rank R low s t)) (le-ltb (rank s) (rank s) (omega arith)))
