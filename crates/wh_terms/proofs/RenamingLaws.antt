-- Renaming of loose variables: one after another, and none at all.
use Rattle.std.proofs.Common.{◌≡◌, ℕ, zero, suc, ◌+◌, refl, ap, ap₂, sym, ◌∙◌}
use Rattle.std.proofs.Math.Path.{fun_ext}
use Rattle.wh_terms.specs.Tree.{Tm, bound, free, fun, meta, lam, app, Tms, none, more, count}
use Rattle.wh_terms.specs.Substitution.{up_renaming, rename, renames}

pub rename_same : {ρ τ : ℕ → ℕ} → ((i : ℕ) → ρ i ≡ τ i) → (t : Tm) → rename ρ t ≡ rename τ t
rename_same h t = ap (λ ρ. rename ρ t) (fun_ext h)

pub up_renaming-twice : (ρ τ : ℕ → ℕ) (i : ℕ) → up_renaming τ (up_renaming ρ i) ≡ up_renaming (λ j. τ (ρ j)) i
unfolding up_renaming
up_renaming-twice ρ τ zero = refl
up_renaming-twice ρ τ (suc i) = refl

mutual
  unfolding rename renames

  pub rename-rename : (ρ τ : ℕ → ℕ) (t : Tm) → rename τ (rename ρ t) ≡ rename (λ i. τ (ρ i)) t
  rename-rename ρ τ (bound i) = refl
  rename-rename ρ τ (free x a) = refl
  rename-rename ρ τ (fun f) = refl
  rename-rename ρ τ (meta z ts) = ap (meta z) (renames-renames ρ τ ts)
  rename-rename ρ τ (lam a t) = ap (lam a) (rename-rename (up_renaming ρ) (up_renaming τ) t ∙ rename_same (up_renaming-twice ρ τ) t)
  rename-rename ρ τ (app t u) = ap₂ app (rename-rename ρ τ t) (rename-rename ρ τ u)

  pub renames-renames : (ρ τ : ℕ → ℕ) (ts : Tms) → renames τ (renames ρ ts) ≡ renames (λ i. τ (ρ i)) ts
  renames-renames ρ τ none = refl
  renames-renames ρ τ (more t ts) = ap₂ more (rename-rename ρ τ t) (renames-renames ρ τ ts)

pub up_renaming-id : (i : ℕ) → up_renaming (λ j. j) i ≡ i
unfolding up_renaming
up_renaming-id zero = refl
up_renaming-id (suc i) = refl

mutual
  unfolding rename renames

  pub rename-id : (t : Tm) → rename (λ i. i) t ≡ t
  rename-id (bound i) = refl
  rename-id (free x a) = refl
  rename-id (fun f) = refl
  rename-id (meta z ts) = ap (meta z) (renames-id ts)
  rename-id (lam a t) = ap (lam a) (rename_same up_renaming-id t ∙ rename-id t)
  rename-id (app t u) = ap₂ app (rename-id t) (rename-id u)

  pub renames-id : (ts : Tms) → renames (λ i. i) ts ≡ ts
  renames-id none = refl
  renames-id (more t ts) = ap₂ more (rename-id t) (renames-id ts)

-- a renaming under one binder more, after a move below that binder
pub rename-up-suc : (ρ : ℕ → ℕ) (t : Tm) → rename (up_renaming ρ) (rename suc t) ≡ rename suc (rename ρ t)
unfolding up_renaming
rename-up-suc ρ t = rename-rename suc (up_renaming ρ) t ∙ sym (rename-rename ρ suc t)

pub count-renames : (ρ : ℕ → ℕ) (ts : Tms) → count (renames ρ ts) ≡ count ts
unfolding renames
count-renames ρ none = refl
count-renames ρ (more t ts) = ap (λ n. 1 + n) (count-renames ρ ts)
