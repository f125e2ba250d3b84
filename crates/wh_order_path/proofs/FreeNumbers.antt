-- What holds of each free variable of a tree, also behind renamings and openings.
use Rattle.std.proofs.Common.{◌≡◌, ℕ, zero, suc}
use Rattle.wh_types.specs.Ty.{Ty}
use Rattle.wh_terms.specs.Tree.{Tm, bound, free, fun, meta, lam, app, Tms, none, more}
use Rattle.wh_terms.specs.Substitution.{up_renaming, rename, renames, up, up_free, act, acts, cons, opened}
use Rattle.wh_terms.specs.Sight.{Fresh, AllFresh, NoFree, AllNoFree}

-- each free variable in the tree has the property
abbrev mutual
  pub EachFree : (ℕ → Ty → Type 0) → Tm → Type 0
  EachFree P (free x a) = P x a
  EachFree P (meta z ts) = AllEachFree P ts
  EachFree P (lam a t) = EachFree P t
  EachFree P (app t u) = EachFree P t × EachFree P u
  EachFree P _ = Unit {0}

  pub AllEachFree : (ℕ → Ty → Type 0) → Tms → Type 0
  AllEachFree P none = Unit {0}
  AllEachFree P (more t ts) = EachFree P t × AllEachFree P ts

mutual
  unfolding rename renames

  each_rename : (P : ℕ → Ty → Type 0) (r : ℕ → ℕ) (t : Tm) → EachFree P t → EachFree P (rename r t)
  each_rename P r (bound i) p = tt
  each_rename P r (free x a) p = p
  each_rename P r (fun f) p = tt
  each_rename P r (meta z ts) p = each_renames P r ts p
  each_rename P r (lam a t) p = each_rename P (up_renaming r) t p
  each_rename P r (app t u) p = (each_rename P r t p.0, each_rename P r u p.1)

  each_renames : (P : ℕ → Ty → Type 0) (r : ℕ → ℕ) (ts : Tms) → AllEachFree P ts → AllEachFree P (renames r ts)
  each_renames P r none p = tt
  each_renames P r (more t ts) p = (each_rename P r t p.0, each_renames P r ts p.1)

each_up : (P : ℕ → Ty → Type 0) (σ : ℕ → Tm) → ((i : ℕ) → EachFree P (σ i)) → (i : ℕ) → EachFree P (up σ i)
unfolding up
each_up P σ h zero = tt
each_up P σ h (suc i) = each_rename P suc (σ i) (h i)

module _ (P Q : ℕ → Ty → Type 0) (more_of : (x : ℕ) (a : Ty) → P x a → Q x a) where
  mutual
    unfolding act acts up_free rename

    each_act : (σ : ℕ → Tm) → ((i : ℕ) → EachFree Q (σ i)) → (t : Tm) → EachFree P t → EachFree Q (act σ free t)
    each_act σ h (bound i) p = h i
    each_act σ h (free x a) p = more_of x a p
    each_act σ h (fun f) p = tt
    each_act σ h (meta z ts) p = each_acts σ h ts p
    each_act σ h (lam a t) p = each_act (up σ) (each_up Q σ h) t p
    each_act σ h (app t u) p = (each_act σ h t p.0, each_act σ h u p.1)

    each_acts : (σ : ℕ → Tm) → ((i : ℕ) → EachFree Q (σ i)) → (ts : Tms) → AllEachFree P ts → AllEachFree Q (acts σ free ts)
    each_acts σ h none p = tt
    each_acts σ h (more t ts) p = (each_act σ h t p.0, each_acts σ h ts p.1)

  -- a tree that is opened by a variable has no free variable but its own and that one
  pub each_opened : (x : ℕ) (a : Ty) (t : Tm) → Q x a → EachFree P t → EachFree Q (opened (free x a) t)
  unfolding opened cons
  each_opened x a t q p = each_act (cons (free x a) bound) first t p
    where
      first : (i : ℕ) → EachFree Q (cons (free x a) bound i)
      first zero = q
      first (suc i) = tt

  mutual
    pub each_more : (t : Tm) → EachFree P t → EachFree Q t
    each_more (bound i) p = tt
    each_more (free x a) p = more_of x a p
    each_more (fun f) p = tt
    each_more (meta z ts) p = all_each_more ts p
    each_more (lam a t) p = each_more t p
    each_more (app t u) p = (each_more t p.0, each_more u p.1)

    all_each_more : (ts : Tms) → AllEachFree P ts → AllEachFree Q ts
    all_each_more none p = tt
    all_each_more (more t ts) p = (each_more t p.0, all_each_more ts p.1)

-- a number that no free variable has is fresh
module _ (n : ℕ) (P : ℕ → Ty → Type 0) (other : (x : ℕ) (a : Ty) → P x a → x ≡ n → ⊥) where
  mutual
    pub each_fresh : (t : Tm) → EachFree P t → Fresh n t
    each_fresh (bound i) p = tt
    each_fresh (free x a) p = other x a p
    each_fresh (fun f) p = tt
    each_fresh (meta z ts) p = all_each_fresh ts p
    each_fresh (lam a t) p = each_fresh t p
    each_fresh (app t u) p = (each_fresh t p.0, each_fresh u p.1)

    all_each_fresh : (ts : Tms) → AllEachFree P ts → AllFresh n ts
    all_each_fresh none p = tt
    all_each_fresh (more t ts) p = (each_fresh t p.0, all_each_fresh ts p.1)

mutual
  pub no_free_each : (P : ℕ → Ty → Type 0) (t : Tm) → NoFree t → EachFree P t
  no_free_each P (bound i) p = tt
  no_free_each P (free x a) p = absurd p
  no_free_each P (fun f) p = tt
  no_free_each P (meta z ts) p = all_no_free_each P ts p
  no_free_each P (lam a t) p = no_free_each P t p
  no_free_each P (app t u) p = (no_free_each P t p.0, no_free_each P u p.1)

  all_no_free_each : (P : ℕ → Ty → Type 0) (ts : Tms) → AllNoFree ts → AllEachFree P ts
  all_no_free_each P none p = tt
  all_no_free_each P (more t ts) p = (no_free_each P t p.0, all_no_free_each P ts p.1)
