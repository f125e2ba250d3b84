-- What holds of all symbols of a tree holds of those of its parts, behind renamings and openings, and where missing arguments are added.
use Rattle.std.proofs.Common.{◌≡◌, ℕ, zero, suc, List, [], ◌∷◌, ◌++◌, map, Some, slice_get, subst, length}
use Rattle.std.specs.List.{AllByRecursion}
use Rattle.wh_types.specs.Ty.{Ty, sort, ◌⇒◌}
use Rattle.wh_terms.specs.Tree.{Tm, bound, free, fun, meta, lam, app, Tms, none, more, tms_of, spine, head}
use Rattle.wh_terms.specs.Substitution.{up_renaming, rename, renames, up, up_free, act, acts, cons, opened}
use Rattle.wh_terms.specs.Typing.{Symbols, Declared}
use Rattle.wh_terms.specs.Rules.{RewriteRule}
use Rattle.wh_order_extended.specs.Kinds.{kind}
use Rattle.wh_order_extended.specs.Long.{expand, finish, finish_argument, core, cores, long}
use Rattle.wh_order_extended.specs.ExtendedSides.{missing, added_from, extended_metas, extended_side}
use Rattle.wh_order_path.specs.Heads.{arguments_of, list_of}
use Rattle.wh_order_local.specs.Only.{Only, AllOnly}

module _ (P : ℕ → Type 0) where
  -- all trees of a list have the property
  abbrev pub EachOnly : List Tm → Type 0
  EachOnly ts = AllByRecursion (Only P) ts

  mutual
    unfolding rename renames

    only_rename : (r : ℕ → ℕ) (t : Tm) → Only P t → Only P (rename r t)
    only_rename r (bound i) p = tt
    only_rename r (free x a) p = tt
    only_rename r (fun f) p = p
    only_rename r (meta z ts) p = all_renames r ts p
    only_rename r (lam a t) p = only_rename (up_renaming r) t p
    only_rename r (app t u) p = (only_rename r t p.0, only_rename r u p.1)

    all_renames : (r : ℕ → ℕ) (ts : Tms) → AllOnly P ts → AllOnly P (renames r ts)
    all_renames r none p = tt
    all_renames r (more t ts) p = (only_rename r t p.0, all_renames r ts p.1)

  only_up : (σ : ℕ → Tm) → ((i : ℕ) → Only P (σ i)) → (i : ℕ) → Only P (up σ i)
  unfolding up
  only_up σ h zero = tt
  only_up σ h (suc i) = only_rename suc (σ i) (h i)

  mutual
    unfolding act acts up_free rename

    only_act : (σ : ℕ → Tm) → ((i : ℕ) → Only P (σ i)) → (t : Tm) → Only P t → Only P (act σ free t)
    only_act σ h (bound i) p = h i
    only_act σ h (free x a) p = tt
    only_act σ h (fun f) p = p
    only_act σ h (meta z ts) p = all_acts σ h ts p
    only_act σ h (lam a t) p = only_act (up σ) (only_up σ h) t p
    only_act σ h (app t u) p = (only_act σ h t p.0, only_act σ h u p.1)

    all_acts : (σ : ℕ → Tm) → ((i : ℕ) → Only P (σ i)) → (ts : Tms) → AllOnly P ts → AllOnly P (acts σ free ts)
    all_acts σ h none p = tt
    all_acts σ h (more t ts) p = (only_act σ h t p.0, all_acts σ h ts p.1)

  pub only_opened : (x : ℕ) (a : Ty) (t : Tm) → Only P t → Only P (opened (free x a) t)
  unfolding opened cons
  only_opened x a t p = only_act (cons (free x a) bound) first t p
    where
      first : (i : ℕ) → Only P (cons (free x a) bound i)
      first zero = tt
      first (suc i) = tt

  -- spines

  pub only_spine : (h : Tm) (ts : List Tm) → Only P h → EachOnly ts → Only P (spine h ts)
  only_spine h [] p q = p
  only_spine h (t ∷ ts) p q = only_spine (app h t) ts (p, q.0) q.1

  pub only_head : (t : Tm) → Only P t → Only P (head t)
  only_head (bound i) p = p
  only_head (free x a) p = p
  only_head (fun f) p = p
  only_head (meta z ts) p = p
  only_head (lam a t) p = p
  only_head (app t u) p = only_head t p.0

  each_push : (ts : List Tm) (u : Tm) → EachOnly ts → Only P u → EachOnly (ts ++ u ∷ [])
  each_push [] u p q = (q, tt)
  each_push (t ∷ ts) u p q = (p.0, each_push ts u p.1 q)

  pub only_arguments : (t : Tm) → Only P t → EachOnly (arguments_of t)
  only_arguments (bound i) p = tt
  only_arguments (free x a) p = tt
  only_arguments (fun f) p = tt
  only_arguments (meta z ts) p = tt
  only_arguments (lam a t) p = tt
  only_arguments (app t u) p = each_push (arguments_of t) u (only_arguments t p.0) p.1

  pub only_listed : (ts : Tms) → AllOnly P ts → EachOnly (list_of ts)
  only_listed none p = tt
  only_listed (more t ts) p = (p.0, only_listed ts p.1)

  pub only_at : (ts : List Tm) (n : ℕ) (t : Tm) → EachOnly ts → slice_get ts n ≡ Some t → Only P t
  only_at [] n t p e = absurd (cc)
  only_at (u ∷ ts) zero t p e = let same : u ≡ t = cc in subst (Only P) same p.0
  only_at (u ∷ ts) (suc n) t p e = only_at ts n t p.1 e

  -- missing arguments

  only_expand : (a : Ty) (c : Tm) → Only P c → Only P (expand a c)
  unfolding expand
  only_expand (sort s) c p = p
  only_expand (a ⇒ b) c p = only_expand b (app (rename suc c) (expand a (bound 0))) (only_rename suc c p, only_expand a (bound 0) tt)

  only_finish : (t : Tm) (a : Ty) (c : Tm) → Only P c → Only P (finish t a c)
  only_finish (bound i) a c p = only_expand a c p
  only_finish (free x b) a c p = only_expand a c p
  only_finish (fun f) a c p = only_expand a c p
  only_finish (meta z ts) a c p = p
  only_finish (lam b t) a c p = p
  only_finish (app t u) a c p = only_expand a c p

  only_argument : (t : Tm) (a : Ty) (c : Tm) → Only P c → Only P (finish_argument t a c)
  only_argument (bound i) a c p = p
  only_argument (free x b) a c p = only_finish (free x b) a c p
  only_argument (fun f) a c p = only_finish (fun f) a c p
  only_argument (meta z ts) a c p = only_finish (meta z ts) a c p
  only_argument (lam b t) a c p = only_finish (lam b t) a c p
  only_argument (app t u) a c p = only_finish (app t u) a c p

  module _ (S : Symbols) (M : List Declared) where
    mutual
      unfolding core cores

      only_core : (Γ : List Ty) (t : Tm) → Only P t → Only P (core S M Γ t)
      only_core Γ (bound i) p = tt
      only_core Γ (free x a) p = tt
      only_core Γ (fun f) p = p
      only_core Γ (meta z ts) p = only_cores Γ ts p
      only_core Γ (lam a t) p = only_finish t (kind S M (a ∷ Γ) t) (core S M (a ∷ Γ) t) (only_core (a ∷ Γ) t p)
      only_core Γ (app t u) p = (only_core Γ t p.0, only_finish u (kind S M Γ u) (core S M Γ u) (only_core Γ u p.1))

      only_cores : (Γ : List Ty) (ts : Tms) → AllOnly P ts → AllOnly P (cores S M Γ ts)
      only_cores Γ none p = tt
      only_cores Γ (more t ts) p = (only_argument t (kind S M Γ t) (core S M Γ t) (only_core Γ t p.0), only_cores Γ ts p.1)

    pub only_long : (Γ : List Ty) (t : Tm) → Only P t → Only P (long S M Γ t)
    only_long Γ t p = only_finish t (kind S M Γ t) (core S M Γ t) (only_core Γ t p)

    -- the arguments of a side of a pair
    pub only_longs : (ts : List Tm) → AllOnly P (tms_of ts) → EachOnly (map (long S M []) ts)
    only_longs [] p = tt
    only_longs (t ∷ ts) p = (only_long [] t p.0, only_longs ts p.1)

  only_added : (n : ℕ) (cs : List Ty) → EachOnly (added_from n cs)
  only_added n [] = tt
  only_added n (c ∷ cs) = (tt, only_added (suc n) cs)

  -- a side of a rule
  pub only_side : (S : Symbols) (r : RewriteRule) (t : Tm) → Only P t → Only P (extended_side S r t)
  only_side S r t p =
      let zs = added_from (length r.metas) (missing S r) in
      only_long S (extended_metas S r) [] (spine t zs) (only_spine t zs p (only_added (length r.metas) (missing S r)))

-- what follows from the property
mutual
  pub only_more : (P Q : ℕ → Type 0) → ((f : ℕ) → P f → Q f) → (t : Tm) → Only P t → Only Q t
  only_more P Q h (bound i) p = tt
  only_more P Q h (free x a) p = tt
  only_more P Q h (fun f) p = h f p
  only_more P Q h (meta z ts) p = all_more P Q h ts p
  only_more P Q h (lam a t) p = only_more P Q h t p
  only_more P Q h (app t u) p = (only_more P Q h t p.0, only_more P Q h u p.1)

  all_more : (P Q : ℕ → Type 0) → ((f : ℕ) → P f → Q f) → (ts : Tms) → AllOnly P ts → AllOnly Q ts
  all_more P Q h none p = tt
  all_more P Q h (more t ts) p = (only_more P Q h t p.0, all_more P Q h ts p.1)
