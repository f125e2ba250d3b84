-- Which loose variables a tree has after a renaming, a substitution or an opening.
use Rattle.std.proofs.Common.{ℕ, zero, suc, ◌+◌, ◌<◌, ◌≤◌, arith}
use Rattle.wh_types.specs.Ty.{Ty}
use Rattle.wh_terms.specs.Tree.{Tm, bound, free, fun, meta, lam, app, Tms, none, more}
use Rattle.wh_terms.specs.Substitution.{up_renaming, rename, renames, up, up_free, act, acts, opened, cons}
use Rattle.wh_terms.specs.Sight.{LooseBelow, AllLooseBelow}

mutual
  pub loose-more : (k m : ℕ) (t : Tm) → k ≤ m → LooseBelow k t → LooseBelow m t
  loose-more k m (bound i) h l = omega arith
  loose-more k m (free x a) h l = tt
  loose-more k m (fun f) h l = tt
  loose-more k m (meta z ts) h l = all_loose-more k m ts h l
  loose-more k m (lam a t) h l = loose-more (k + 1) (m + 1) t (omega arith) l
  loose-more k m (app t u) h l = (loose-more k m t h l.0, loose-more k m u h l.1)

  pub all_loose-more : (k m : ℕ) (ts : Tms) → k ≤ m → AllLooseBelow k ts → AllLooseBelow m ts
  all_loose-more k m none h l = tt
  all_loose-more k m (more t ts) h l = (loose-more k m t h l.0, all_loose-more k m ts h l.1)

up_renaming_below : (k m : ℕ) (ρ : ℕ → ℕ) → ((i : ℕ) → i < k → ρ i < m) → (i : ℕ) → i < k + 1 → up_renaming ρ i < m + 1
unfolding up_renaming
up_renaming_below k m ρ h zero l = omega arith
up_renaming_below k m ρ h (suc i) l = let b : ρ i < m = h i (omega arith) in omega arith

mutual
  unfolding rename renames

  pub loose-rename : (k m : ℕ) (ρ : ℕ → ℕ) (t : Tm) → ((i : ℕ) → i < k → ρ i < m) → LooseBelow k t → LooseBelow m (rename ρ t)
  loose-rename k m ρ (bound i) h l = h i l
  loose-rename k m ρ (free x a) h l = tt
  loose-rename k m ρ (fun f) h l = tt
  loose-rename k m ρ (meta z ts) h l = all_loose-renames k m ρ ts h l
  loose-rename k m ρ (lam a t) h l = loose-rename (k + 1) (m + 1) (up_renaming ρ) t (up_renaming_below k m ρ h) l
  loose-rename k m ρ (app t u) h l = (loose-rename k m ρ t h l.0, loose-rename k m ρ u h l.1)

  pub all_loose-renames : (k m : ℕ) (ρ : ℕ → ℕ) (ts : Tms) → ((i : ℕ) → i < k → ρ i < m) → AllLooseBelow k ts → AllLooseBelow m (renames ρ ts)
  all_loose-renames k m ρ none h l = tt
  all_loose-renames k m ρ (more t ts) h l = (loose-rename k m ρ t h l.0, all_loose-renames k m ρ ts h l.1)

pub loose-shift : (k : ℕ) (t : Tm) → LooseBelow k t → LooseBelow (k + 1) (rename suc t)
loose-shift k t l = loose-rename k (k + 1) suc t (λ i h. omega arith) l

pub loose-up : (k m : ℕ) (σ : ℕ → Tm) → ((i : ℕ) → i < k → LooseBelow m (σ i)) → (i : ℕ) → i < k + 1 → LooseBelow (m + 1) (up σ i)
unfolding up
loose-up k m σ h zero l = omega arith
loose-up k m σ h (suc i) l = loose-shift m (σ i) (h i (omega arith))

mutual
  unfolding act acts up_free

  pub loose-act : (k m : ℕ) (σ : ℕ → Tm) (φ : ℕ → Ty → Tm) (t : Tm) → ((i : ℕ) → i < k → LooseBelow m (σ i)) → ((x : ℕ) (a : Ty) → LooseBelow m (φ x a))
      → LooseBelow k t → LooseBelow m (act σ φ t)
  loose-act k m σ φ (bound i) h f l = h i l
  loose-act k m σ φ (free x a) h f l = f x a
  loose-act k m σ φ (fun g) h f l = tt
  loose-act k m σ φ (meta z ts) h f l = all_loose-acts k m σ φ ts h f l
  loose-act k m σ φ (lam a t) h f l = loose-act (k + 1) (m + 1) (up σ) (up_free φ) t (loose-up k m σ h) (λ x b. loose-shift m (φ x b) (f x b)) l
  loose-act k m σ φ (app t u) h f l = (loose-act k m σ φ t h f l.0, loose-act k m σ φ u h f l.1)

  pub all_loose-acts : (k m : ℕ) (σ : ℕ → Tm) (φ : ℕ → Ty → Tm) (ts : Tms) → ((i : ℕ) → i < k → LooseBelow m (σ i)) → ((x : ℕ) (a : Ty) → LooseBelow m (φ x a))
      → AllLooseBelow k ts → AllLooseBelow m (acts σ φ ts)
  all_loose-acts k m σ φ none h f l = tt
  all_loose-acts k m σ φ (more t ts) h f l = (loose-act k m σ φ t h f l.0, all_loose-acts k m σ φ ts h f l.1)

loose-cons : (k : ℕ) (u : Tm) → LooseBelow k u → (i : ℕ) → i < k + 1 → LooseBelow k (cons u bound i)
unfolding cons
loose-cons k u l zero h = l
loose-cons k u l (suc i) h = omega arith

pub loose-opened : (k : ℕ) (u t : Tm) → LooseBelow k u → LooseBelow (k + 1) t → LooseBelow k (opened u t)
unfolding opened
loose-opened k u t h l = loose-act (k + 1) k (cons u bound) free t (loose-cons k u h) (λ x a. tt) l

up_renaming_below-back : (k m : ℕ) (ρ : ℕ → ℕ) → ((i : ℕ) → ρ i < m → i < k) → (i : ℕ) → up_renaming ρ i < m + 1 → i < k + 1
unfolding up_renaming
up_renaming_below-back k m ρ h zero l = omega arith
up_renaming_below-back k m ρ h (suc i) l = let b : i < k = h i (omega arith) in omega arith

mutual
  unfolding rename renames

  pub loose-rename-back : (k m : ℕ) (ρ : ℕ → ℕ) (t : Tm) → ((i : ℕ) → ρ i < m → i < k) → LooseBelow m (rename ρ t) → LooseBelow k t
  loose-rename-back k m ρ (bound i) h l = h i l
  loose-rename-back k m ρ (free x a) h l = tt
  loose-rename-back k m ρ (fun f) h l = tt
  loose-rename-back k m ρ (meta z ts) h l = all_loose-renames-back k m ρ ts h l
  loose-rename-back k m ρ (lam a t) h l = loose-rename-back (k + 1) (m + 1) (up_renaming ρ) t (up_renaming_below-back k m ρ h) l
  loose-rename-back k m ρ (app t u) h l = (loose-rename-back k m ρ t h l.0, loose-rename-back k m ρ u h l.1)

  pub all_loose-renames-back : (k m : ℕ) (ρ : ℕ → ℕ) (ts : Tms) → ((i : ℕ) → ρ i < m → i < k) → AllLooseBelow m (renames ρ ts) → AllLooseBelow k ts
  all_loose-renames-back k m ρ none h l = tt
  all_loose-renames-back k m ρ (more t ts) h l = (loose-rename-back k m ρ t h l.0, all_loose-renames-back k m ρ ts h l.1)

pub loose-shift-back : (k : ℕ) (t : Tm) → LooseBelow (k + 1) (rename suc t) → LooseBelow k t
loose-shift-back k t l = loose-rename-back k (k + 1) suc t (λ i h. omega arith) l

pub loose-up-back : (k m : ℕ) (σ : ℕ → Tm) → ((i : ℕ) → LooseBelow m (σ i) → i < k) → (i : ℕ) → LooseBelow (m + 1) (up σ i) → i < k + 1
unfolding up
loose-up-back k m σ h zero l = omega arith
loose-up-back k m σ h (suc i) l = let b : i < k = h i (loose-shift-back m (σ i) l) in omega arith

-- back: what σ gives to a loose variable from k on has a loose variable from m on
mutual
  unfolding act acts

  pub loose-act-back : (k m : ℕ) (σ : ℕ → Tm) (φ : ℕ → Ty → Tm) (t : Tm) → ((i : ℕ) → LooseBelow m (σ i) → i < k) → LooseBelow m (act σ φ t) → LooseBelow k t
  loose-act-back k m σ φ (bound i) h l = h i l
  loose-act-back k m σ φ (free x a) h l = tt
  loose-act-back k m σ φ (fun g) h l = tt
  loose-act-back k m σ φ (meta z ts) h l = all_loose-acts-back k m σ φ ts h l
  loose-act-back k m σ φ (lam a t) h l = loose-act-back (k + 1) (m + 1) (up σ) (up_free φ) t (loose-up-back k m σ h) l
  loose-act-back k m σ φ (app t u) h l = (loose-act-back k m σ φ t h l.0, loose-act-back k m σ φ u h l.1)

  pub all_loose-acts-back : (k m : ℕ) (σ : ℕ → Tm) (φ : ℕ → Ty → Tm) (ts : Tms) → ((i : ℕ) → LooseBelow m (σ i) → i < k) → AllLooseBelow m (acts σ φ ts) → AllLooseBelow k ts
  all_loose-acts-back k m σ φ none h l = tt
  all_loose-acts-back k m σ φ (more t ts) h l = (loose-act-back k m σ φ t h l.0, all_loose-acts-back k m σ φ ts h l.1)

loose-cons-back : (k : ℕ) (x : ℕ) (a : Ty) (i : ℕ) → LooseBelow k (cons (free x a) bound i) → i < k + 1
unfolding cons
loose-cons-back k x a zero l = omega arith
loose-cons-back k x a (suc i) l = omega arith

pub loose-opened-back : (k x : ℕ) (a : Ty) (t : Tm) → LooseBelow k (opened (free x a) t) → LooseBelow (k + 1) t
unfolding opened
loose-opened-back k x a t l = loose-act-back (k + 1) k (cons (free x a) bound) free t (loose-cons-back k x a) l
