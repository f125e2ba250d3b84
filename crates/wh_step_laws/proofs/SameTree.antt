-- A test of equality of trees, and one of occurrence.
use Rattle.std.proofs.Common.{◌≡◌, ℕ, Bool, true, false, ◌&&◌, ◌||◌, refl, ap, ap₂, inl, inr, ◌⊎◌, eqb-true, eq-eqb}
use Rattle.std.specs.Prelude.{◌==◌}
use Rattle.wh_types.specs.Ty.{same_ty}
use Rattle.wh_terms.specs.Tree.{Tm, bound, free, fun, meta, lam, app, Tms, none, more}
use Rattle.wh_terms.proofs.TypeTests.{same_ty-self, same_ty-equal}
use Rattle.wh_terms.specs.Sight.{Occurs, OccursIn}

both_true : (b c : Bool) → (b && c) ≡ true → (b ≡ true) × (c ≡ true)
both_true true c e = (refl, e)
both_true false c e = absurd (cc)

true_both : (b c : Bool) → b ≡ true → c ≡ true → (b && c) ≡ true
true_both b c e d = ap₂ (λ b c. b && c) e d

-- whether two trees are equal
abbrev mutual
  pub same_tm : Tm → Tm → Bool
  same_tm (bound i) (bound j) = i == j
  same_tm (free x a) (free y b) = (x == y) && same_ty a b
  same_tm (fun f) (fun g) = f == g
  same_tm (meta z ts) (meta y us) = (z == y) && same_tms ts us
  same_tm (lam a t) (lam b u) = same_ty a b && same_tm t u
  same_tm (app t u) (app v w) = same_tm t v && same_tm u w
  same_tm _ _ = false

  pub same_tms : Tms → Tms → Bool
  same_tms none none = true
  same_tms (more t ts) (more u us) = same_tm t u && same_tms ts us
  same_tms _ _ = false

mutual
  pub same_tm-equal : (t u : Tm) → same_tm t u ≡ true → t ≡ u
  same_tm-equal (bound i) (bound j) e = ap bound (eqb-true i j e)
  same_tm-equal (free x a) (free y b) e = let (f, g) = both_true (x == y) (same_ty a b) e in ap₂ free (eqb-true x y f) (same_ty-equal a b g)
  same_tm-equal (fun f) (fun g) e = ap fun (eqb-true f g e)
  same_tm-equal (meta z ts) (meta y us) e = let (f, g) = both_true (z == y) (same_tms ts us) e in ap₂ meta (eqb-true z y f) (same_tms-equal ts us g)
  same_tm-equal (lam a t) (lam b u) e = let (f, g) = both_true (same_ty a b) (same_tm t u) e in ap₂ lam (same_ty-equal a b f) (same_tm-equal t u g)
  same_tm-equal (app t u) (app v w) e = let (f, g) = both_true (same_tm t v) (same_tm u w) e in ap₂ app (same_tm-equal t v f) (same_tm-equal u w g)
  same_tm-equal t u e = absurd (cc)

  pub same_tms-equal : (ts us : Tms) → same_tms ts us ≡ true → ts ≡ us
  same_tms-equal none none e = refl
  same_tms-equal (more t ts) (more u us) e = let (f, g) = both_true (same_tm t u) (same_tms ts us) e in ap₂ more (same_tm-equal t u f) (same_tms-equal ts us g)
  same_tms-equal ts us e = absurd (cc)

mutual
  pub same_tm-self : (t : Tm) → same_tm t t ≡ true
  same_tm-self (bound i) = eq-eqb i i refl
  same_tm-self (free x a) = true_both (x == x) (same_ty a a) (eq-eqb x x refl) (same_ty-self a)
  same_tm-self (fun f) = eq-eqb f f refl
  same_tm-self (meta z ts) = true_both (z == z) (same_tms ts ts) (eq-eqb z z refl) (same_tms-self ts)
  same_tm-self (lam a t) = true_both (same_ty a a) (same_tm t t) (same_ty-self a) (same_tm-self t)
  same_tm-self (app t u) = true_both (same_tm t t) (same_tm u u) (same_tm-self t) (same_tm-self u)

  pub same_tms-self : (ts : Tms) → same_tms ts ts ≡ true
  same_tms-self none = refl
  same_tms-self (more t ts) = true_both (same_tm t t) (same_tms ts ts) (same_tm-self t) (same_tms-self ts)

-- whether the meta-variable z occurs
abbrev mutual
  pub occurs : ℕ → Tm → Bool
  occurs z (meta y ts) = (y == z) || occurs_in z ts
  occurs z (lam a t) = occurs z t
  occurs z (app t u) = occurs z t || occurs z u
  occurs z _ = false

  pub occurs_in : ℕ → Tms → Bool
  occurs_in z none = false
  occurs_in z (more t ts) = occurs z t || occurs_in z ts

either_true : {P Q : Type 0} (b c : Bool) → (b || c) ≡ true → (b ≡ true → P) → (c ≡ true → Q) → P ⊎ Q
either_true true c e p q = inl (p refl)
either_true false c e p q = inr (q e)

first_false : (b c : Bool) → (b || c) ≡ false → b ≡ false
first_false true c e = absurd (cc)
first_false false c e = refl

second_false : (b c : Bool) → (b || c) ≡ false → c ≡ false
second_false true c e = absurd (cc)
second_false false c e = e

mutual
  pub occurs-false : (z : ℕ) (t : Tm) → occurs z t ≡ false → Occurs z t → ⊥
  occurs-false z (bound i) e o = o
  occurs-false z (free x a) e o = o
  occurs-false z (fun f) e o = o
  occurs-false z (meta y ts) e (inl o) = let f : (y == z) ≡ true = eq-eqb y z o in let g : (y == z) ≡ false = first_false (y == z) (occurs_in z ts) e in absurd (cc)
  occurs-false z (meta y ts) e (inr o) = occurs_in-false z ts (second_false (y == z) (occurs_in z ts) e) o
  occurs-false z (lam a t) e o = occurs-false z t e o
  occurs-false z (app t u) e (inl o) = occurs-false z t (first_false (occurs z t) (occurs z u) e) o
  occurs-false z (app t u) e (inr o) = occurs-false z u (second_false (occurs z t) (occurs z u) e) o

  pub occurs_in-false : (z : ℕ) (ts : Tms) → occurs_in z ts ≡ false → OccursIn z ts → ⊥
  occurs_in-false z none e o = o
  occurs_in-false z (more t ts) e (inl o) = occurs-false z t (first_false (occurs z t) (occurs_in z ts) e) o
  occurs_in-false z (more t ts) e (inr o) = occurs_in-false z ts (second_false (occurs z t) (occurs_in z ts) e) o

mutual
  pub occurs-true : (z : ℕ) (t : Tm) → occurs z t ≡ true → Occurs z t
  occurs-true z (meta y ts) e = either_true (y == z) (occurs_in z ts) e (λ d. eqb-true y z d) (λ d. occurs_in-true z ts d)
  occurs-true z (lam a t) e = occurs-true z t e
  occurs-true z (app t u) e = either_true (occurs z t) (occurs z u) e (λ d. occurs-true z t d) (λ d. occurs-true z u d)
  occurs-true z t e = absurd (cc)

  pub occurs_in-true : (z : ℕ) (ts : Tms) → occurs_in z ts ≡ true → OccursIn z ts
  occurs_in-true z none e = absurd (cc)
  occurs_in-true z (more t ts) e = either_true (occurs z t) (occurs_in z ts) e (λ d. occurs-true z t d) (λ d. occurs_in-true z ts d)
