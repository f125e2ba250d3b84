-- Substituting for loose and free variables: one after another, beside a renaming, and by nothing; opening.
use Rattle.std.proofs.Common.{◌≡◌, ℕ, zero, suc, ◌+◌, refl, ap, ap₂, sym, ◌∙◌}
use Rattle.std.proofs.Math.Path.{fun_ext}
use Rattle.wh_types.specs.Ty.{Ty}
use Rattle.wh_terms.specs.Tree.{Tm, bound, free, fun, meta, lam, app, Tms, none, more, count}
use Rattle.wh_terms.specs.Substitution.{up_renaming, rename, renames, up, up_free, act, acts, cons, opened}
use Rattle.wh_terms.proofs.RenamingLaws.{rename-up-suc}

pub act_same : {σ τ : ℕ → Tm} {φ ψ : ℕ → Ty → Tm} → ((i : ℕ) → σ i ≡ τ i) → ((x : ℕ) (a : Ty) → φ x a ≡ ψ x a) → (t : Tm) → act σ φ t ≡ act τ ψ t
act_same h k t = ap₂ (λ σ φ. act σ φ t) (fun_ext h) (fun_ext (λ x. fun_ext (k x)))

up-up_renaming : (σ : ℕ → Tm) (ρ : ℕ → ℕ) (i : ℕ) → up σ (up_renaming ρ i) ≡ up (λ j. σ (ρ j)) i
unfolding up up_renaming
up-up_renaming σ ρ zero = refl
up-up_renaming σ ρ (suc i) = refl

mutual
  unfolding rename renames act acts

  pub act-rename : (ρ : ℕ → ℕ) (σ : ℕ → Tm) (φ : ℕ → Ty → Tm) (t : Tm) → act σ φ (rename ρ t) ≡ act (λ i. σ (ρ i)) φ t
  act-rename ρ σ φ (bound i) = refl
  act-rename ρ σ φ (free x a) = refl
  act-rename ρ σ φ (fun f) = refl
  act-rename ρ σ φ (meta z ts) = ap (meta z) (acts-renames ρ σ φ ts)
  act-rename ρ σ φ (lam a t) = ap (lam a) (act-rename (up_renaming ρ) (up σ) (up_free φ) t ∙ act_same (up-up_renaming σ ρ) (λ x a. refl) t)
  act-rename ρ σ φ (app t u) = ap₂ app (act-rename ρ σ φ t) (act-rename ρ σ φ u)

  pub acts-renames : (ρ : ℕ → ℕ) (σ : ℕ → Tm) (φ : ℕ → Ty → Tm) (ts : Tms) → acts σ φ (renames ρ ts) ≡ acts (λ i. σ (ρ i)) φ ts
  acts-renames ρ σ φ none = refl
  acts-renames ρ σ φ (more t ts) = ap₂ more (act-rename ρ σ φ t) (acts-renames ρ σ φ ts)

rename-up : (ρ : ℕ → ℕ) (σ : ℕ → Tm) (i : ℕ) → rename (up_renaming ρ) (up σ i) ≡ up (λ j. rename ρ (σ j)) i
unfolding up up_renaming rename
rename-up ρ σ zero = refl
rename-up ρ σ (suc i) = rename-up-suc ρ (σ i)

rename-up_free : (ρ : ℕ → ℕ) (φ : ℕ → Ty → Tm) (x : ℕ) (a : Ty) → rename (up_renaming ρ) (up_free φ x a) ≡ up_free (λ y b. rename ρ (φ y b)) x a
unfolding up_free
rename-up_free ρ φ x a = rename-up-suc ρ (φ x a)

mutual
  unfolding rename renames act acts

  pub rename-act : (σ : ℕ → Tm) (φ : ℕ → Ty → Tm) (ρ : ℕ → ℕ) (t : Tm) → rename ρ (act σ φ t) ≡ act (λ i. rename ρ (σ i)) (λ x a. rename ρ (φ x a)) t
  rename-act σ φ ρ (bound i) = refl
  rename-act σ φ ρ (free x a) = refl
  rename-act σ φ ρ (fun f) = refl
  rename-act σ φ ρ (meta z ts) = ap (meta z) (renames-acts σ φ ρ ts)
  rename-act σ φ ρ (lam a t) = ap (lam a) (rename-act (up σ) (up_free φ) (up_renaming ρ) t ∙ act_same (rename-up ρ σ) (rename-up_free ρ φ) t)
  rename-act σ φ ρ (app t u) = ap₂ app (rename-act σ φ ρ t) (rename-act σ φ ρ u)

  pub renames-acts : (σ : ℕ → Tm) (φ : ℕ → Ty → Tm) (ρ : ℕ → ℕ) (ts : Tms) → renames ρ (acts σ φ ts) ≡ acts (λ i. rename ρ (σ i)) (λ x a. rename ρ (φ x a)) ts
  renames-acts σ φ ρ none = refl
  renames-acts σ φ ρ (more t ts) = ap₂ more (rename-act σ φ ρ t) (renames-acts σ φ ρ ts)

-- a substitution under one binder more, after a move below that binder
pub act-up-suc : (σ : ℕ → Tm) (φ : ℕ → Ty → Tm) (t : Tm) → act (up σ) (up_free φ) (rename suc t) ≡ rename suc (act σ φ t)
unfolding up up_free
act-up-suc σ φ t = act-rename suc (up σ) (up_free φ) t ∙ sym (rename-act σ φ suc t)

act-up : (σ : ℕ → Tm) (φ : ℕ → Ty → Tm) (τ : ℕ → Tm) (ψ : ℕ → Ty → Tm) (i : ℕ) → act (up τ) (up_free ψ) (up σ i) ≡ up (λ j. act τ ψ (σ j)) i
unfolding up act
act-up σ φ τ ψ zero = refl
act-up σ φ τ ψ (suc i) = act-up-suc τ ψ (σ i)

act-up_free : (φ : ℕ → Ty → Tm) (τ : ℕ → Tm) (ψ : ℕ → Ty → Tm) (x : ℕ) (a : Ty) → act (up τ) (up_free ψ) (up_free φ x a) ≡ up_free (λ y b. act τ ψ (φ y b)) x a
unfolding up_free
act-up_free φ τ ψ x a = act-up-suc τ ψ (φ x a)

mutual
  unfolding act acts

  pub act-act : (σ : ℕ → Tm) (φ : ℕ → Ty → Tm) (τ : ℕ → Tm) (ψ : ℕ → Ty → Tm) (t : Tm)
      → act τ ψ (act σ φ t) ≡ act (λ i. act τ ψ (σ i)) (λ x a. act τ ψ (φ x a)) t
  act-act σ φ τ ψ (bound i) = refl
  act-act σ φ τ ψ (free x a) = refl
  act-act σ φ τ ψ (fun f) = refl
  act-act σ φ τ ψ (meta z ts) = ap (meta z) (acts-acts σ φ τ ψ ts)
  act-act σ φ τ ψ (lam a t) = ap (lam a) (act-act (up σ) (up_free φ) (up τ) (up_free ψ) t ∙ act_same (act-up σ φ τ ψ) (act-up_free φ τ ψ) t)
  act-act σ φ τ ψ (app t u) = ap₂ app (act-act σ φ τ ψ t) (act-act σ φ τ ψ u)

  pub acts-acts : (σ : ℕ → Tm) (φ : ℕ → Ty → Tm) (τ : ℕ → Tm) (ψ : ℕ → Ty → Tm) (ts : Tms)
      → acts τ ψ (acts σ φ ts) ≡ acts (λ i. act τ ψ (σ i)) (λ x a. act τ ψ (φ x a)) ts
  acts-acts σ φ τ ψ none = refl
  acts-acts σ φ τ ψ (more t ts) = ap₂ more (act-act σ φ τ ψ t) (acts-acts σ φ τ ψ ts)

pub up-bound : (i : ℕ) → up bound i ≡ bound i
unfolding up rename
up-bound zero = refl
up-bound (suc i) = refl

pub up_free-free : (x : ℕ) (a : Ty) → up_free free x a ≡ free x a
unfolding up_free rename
up_free-free x a = refl

mutual
  unfolding act acts

  -- each variable for itself
  pub act-id : (t : Tm) → act bound free t ≡ t
  act-id (bound i) = refl
  act-id (free x a) = refl
  act-id (fun f) = refl
  act-id (meta z ts) = ap (meta z) (acts-id ts)
  act-id (lam a t) = ap (lam a) (act_same up-bound up_free-free t ∙ act-id t)
  act-id (app t u) = ap₂ app (act-id t) (act-id u)

  pub acts-id : (ts : Tms) → acts bound free ts ≡ ts
  acts-id none = refl
  acts-id (more t ts) = ap₂ more (act-id t) (acts-id ts)

-- a renaming is a substitution
pub rename-is-act : (ρ : ℕ → ℕ) (t : Tm) → rename ρ t ≡ act (λ i. bound (ρ i)) free t
rename-is-act ρ t = sym (act-id (rename ρ t)) ∙ act-rename ρ bound free t

pub count-acts : (σ : ℕ → Tm) (φ : ℕ → Ty → Tm) (ts : Tms) → count (acts σ φ ts) ≡ count ts
unfolding acts
count-acts σ φ none = refl
count-acts σ φ (more t ts) = ap (λ n. 1 + n) (count-acts σ φ ts)

-- a tree that does not speak of the nearest loose variable opens to itself, moved back
pub opened-shift : (u t : Tm) → opened u (rename suc t) ≡ t
unfolding opened cons
opened-shift u t = act-rename suc (cons u bound) free t ∙ act-id t

act-cons-up : (u : Tm) (σ : ℕ → Tm) (i : ℕ) → act (cons u bound) free (up σ i) ≡ cons u σ i
unfolding up cons act opened
act-cons-up u σ zero = refl
act-cons-up u σ (suc i) = opened-shift u (σ i)

act-cons-up_free : (u : Tm) (φ : ℕ → Ty → Tm) (x : ℕ) (a : Ty) → act (cons u bound) free (up_free φ x a) ≡ φ x a
unfolding up_free opened
act-cons-up_free u φ x a = opened-shift u (φ x a)

-- opening after a substitution under the binder: the opening tree is one more substituted one
pub opened-act : (u : Tm) (σ : ℕ → Tm) (φ : ℕ → Ty → Tm) (t : Tm) → opened u (act (up σ) (up_free φ) t) ≡ act (cons u σ) φ t
unfolding opened
opened-act u σ φ t = act-act (up σ) (up_free φ) (cons u bound) free t ∙ act_same (act-cons-up u σ) (act-cons-up_free u φ) t

act-cons : (σ : ℕ → Tm) (φ : ℕ → Ty → Tm) (u : Tm) (τ : ℕ → Tm) (i : ℕ) → act σ φ (cons u τ i) ≡ cons (act σ φ u) (λ j. act σ φ (τ j)) i
unfolding cons
act-cons σ φ u τ zero = refl
act-cons σ φ u τ (suc i) = refl

pub act-opened-cons : (σ : ℕ → Tm) (φ : ℕ → Ty → Tm) (u t : Tm) → act σ φ (opened u t) ≡ act (cons (act σ φ u) σ) φ t
unfolding opened act
act-opened-cons σ φ u t = act-act (cons u bound) free σ φ t ∙ act_same (act-cons σ φ u bound) (λ x a. refl) t

-- a substitution after opening: under the binder, and in the opening tree
pub act-opened : (σ : ℕ → Tm) (φ : ℕ → Ty → Tm) (u t : Tm) → act σ φ (opened u t) ≡ opened (act σ φ u) (act (up σ) (up_free φ) t)
act-opened σ φ u t = act-opened-cons σ φ u t ∙ sym (opened-act (act σ φ u) σ φ t)

rename-cons : (ρ : ℕ → ℕ) (u : Tm) (i : ℕ) → rename ρ (cons u bound i) ≡ cons (rename ρ u) bound (up_renaming ρ i)
unfolding cons up_renaming rename
rename-cons ρ u zero = refl
rename-cons ρ u (suc i) = refl

-- a renaming after opening
pub rename-opened : (ρ : ℕ → ℕ) (u t : Tm) → rename ρ (opened u t) ≡ opened (rename ρ u) (rename (up_renaming ρ) t)
unfolding opened rename
rename-opened ρ u t =
    rename-act (cons u bound) free ρ t ∙ act_same (rename-cons ρ u) (λ x a. refl) t ∙ sym (act-rename (up_renaming ρ) (cons (rename ρ u) bound) free t)
