-- What a path leads to, with the passed binders opened, as a relation; and how long such a path can be.
use Rattle.std.proofs.Common.{◌≡◌, ℕ, zero, suc, ◌+◌, ◌≤◌, List, [], ◌∷◌, length, Some, None, refl, ap, ap₂, arith}
use Rattle.wh_types.specs.Ty.{Ty}
use Rattle.wh_terms.specs.Tree.{Tm, bound, free, fun, meta, lam, app, Tms, none, more}
use Rattle.wh_terms.specs.Measures.{size, sizes}
use Rattle.wh_terms.specs.Places.{opened_part_at}
use Rattle.wh_terms.specs.Substitution.{rename, up, up_free, act, acts, cons, opened}
use Rattle.wh_terms.proofs.TypingLaws.{some_one}

pub data Reaches : ℕ → List ℕ → Tm → Tm → Type 0 where
  at_end : {x : ℕ} {u w : Tm} → u ≡ w → Reaches x [] u w
  in_body : {x : ℕ} {path : List ℕ} {a : Ty} {t w : Tm} → Reaches (x + 1) path (opened (free x a) t) w → Reaches x (0 ∷ path) (lam a t) w
  in_function : {x : ℕ} {path : List ℕ} {t u w : Tm} → Reaches x path t w → Reaches x (0 ∷ path) (app t u) w
  in_argument : {x : ℕ} {path : List ℕ} {t u w : Tm} → Reaches x path u w → Reaches x (1 ∷ path) (app t u) w

no_part : {w : Tm} → None ≡ Some w → ⊥
no_part e = absurd (cc)

pub reaches : (path : List ℕ) (x : ℕ) (u w : Tm) → opened_part_at x path u ≡ Some w → Reaches x path u w
reaches [] x u w e = at_end (some_one e)
reaches (zero ∷ path) x (lam a t) w e = in_body (reaches path (x + 1) (opened (free x a) t) w e)
reaches (zero ∷ path) x (app t u) w e = in_function (reaches path x t w e)
reaches (suc zero ∷ path) x (app t u) w e = in_argument (reaches path x u w e)
reaches (suc (suc d) ∷ path) x (app t u) w e = absurd (no_part e)
reaches (suc zero ∷ path) x (lam a t) w e = absurd (no_part e)
reaches (suc (suc d) ∷ path) x (lam a t) w e = absurd (no_part e)
reaches (zero ∷ path) x (bound i) w e = absurd (no_part e)
reaches (suc zero ∷ path) x (bound i) w e = absurd (no_part e)
reaches (suc (suc d) ∷ path) x (bound i) w e = absurd (no_part e)
reaches (zero ∷ path) x (free y a) w e = absurd (no_part e)
reaches (suc zero ∷ path) x (free y a) w e = absurd (no_part e)
reaches (suc (suc d) ∷ path) x (free y a) w e = absurd (no_part e)
reaches (zero ∷ path) x (fun f) w e = absurd (no_part e)
reaches (suc zero ∷ path) x (fun f) w e = absurd (no_part e)
reaches (suc (suc d) ∷ path) x (fun f) w e = absurd (no_part e)
reaches (zero ∷ path) x (meta z ts) w e = absurd (no_part e)
reaches (suc zero ∷ path) x (meta z ts) w e = absurd (no_part e)
reaches (suc (suc d) ∷ path) x (meta z ts) w e = absurd (no_part e)

-- variables for variables keep the size

abbrev pub IsVariable : Tm → Type 0
IsVariable (bound i) = Unit {0}
IsVariable (free x a) = Unit {0}
IsVariable _ = ⊥

abbrev pub AreVariables : (ℕ → Tm) → Type 0
AreVariables σ = (i : ℕ) → IsVariable (σ i)

pub size_variable : (t : Tm) → IsVariable t → size t ≡ 1
size_variable (bound i) v = refl
size_variable (free x a) v = refl
size_variable (fun f) v = absurd v
size_variable (meta z ts) v = absurd v
size_variable (lam a t) v = absurd v
size_variable (app t u) v = absurd v

pub variable-rename : (t : Tm) → IsVariable t → IsVariable (rename suc t)
unfolding rename
variable-rename (bound i) v = tt
variable-rename (free x a) v = tt
variable-rename (fun f) v = v
variable-rename (meta z ts) v = v
variable-rename (lam a t) v = v
variable-rename (app t u) v = v

pub variables-up : (σ : ℕ → Tm) → AreVariables σ → AreVariables (up σ)
unfolding up
variables-up σ h zero = tt
variables-up σ h (suc i) = variable-rename (σ i) (h i)

pub variables-cons : (x : ℕ) (a : Ty) → AreVariables (cons (free x a) bound)
unfolding cons
variables-cons x a zero = tt
variables-cons x a (suc i) = tt

mutual
  unfolding act acts up_free rename

  size-act : (σ : ℕ → Tm) (t : Tm) → AreVariables σ → size (act σ free t) ≡ size t
  size-act σ (bound i) h = size_variable (σ i) (h i)
  size-act σ (free x a) h = refl
  size-act σ (fun f) h = refl
  size-act σ (meta z ts) h = ap (λ n. 1 + n) (sizes-acts σ ts h)
  size-act σ (lam a t) h = ap (λ n. 1 + n) (size-act (up σ) t (variables-up σ h))
  size-act σ (app t u) h = ap₂ (λ n m. 1 + n + m) (size-act σ t h) (size-act σ u h)

  sizes-acts : (σ : ℕ → Tm) (ts : Tms) → AreVariables σ → sizes (acts σ free ts) ≡ sizes ts
  sizes-acts σ none h = refl
  sizes-acts σ (more t ts) h = ap₂ (λ n m. n + m) (size-act σ t h) (sizes-acts σ ts h)

pub size-opened : (x : ℕ) (a : Ty) (t : Tm) → size (opened (free x a) t) ≡ size t
unfolding opened
size-opened x a t = size-act (cons (free x a) bound) t (variables-cons x a)

-- a path to a part is no longer than the tree is large
pub path_within : {x : ℕ} {path : List ℕ} {u w : Tm} → Reaches x path u w → length path ≤ size u
path_within (at_end e) = omega arith
path_within (in_body {x = x} {a = a} {t = t} r) = omega (arith, path_within r, size-opened x a t)
path_within (in_function r) = omega (arith, path_within r)
path_within (in_argument r) = omega (arith, path_within r)
