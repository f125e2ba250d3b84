-- Extended patterns are patterns, and what occurs in an extended tree.
use Rattle.std.proofs.Common.{◌≡◌, ℕ, zero, suc, ◌+◌, ◌<◌, List, ◌∷◌, refl, ap, sym, subst, arith}
use Rattle.wh_types.specs.Ty.{Ty, sort, ◌⇒◌}
use Rattle.wh_terms.specs.Tree.{Tm, bound, free, fun, meta, lam, app, Tms, none, more}
use Rattle.wh_terms.specs.Substitution.{up_renaming, rename, renames}
use Rattle.wh_terms.specs.Pattern.{AllBoundBelow, Misses, Distinct, IsPatternUnder, IsPatternSpine}
use Rattle.wh_terms.specs.Typing.{Symbols, Declared}
use Rattle.wh_order_extended.specs.Kinds.{type_at, kind}
use Rattle.wh_order_extended.specs.Long.{expand, core, cores, long}

-- a renaming that keeps variables apart, and takes those below k to some below m
pub record Moves (k m : ℕ) (r : ℕ → ℕ) : Type 0 where
  pub apart : (i j : ℕ) → r i ≡ r j → i ≡ j
  pub below : (i : ℕ) → i < k → r i < m

moves_up : (k m : ℕ) (r : ℕ → ℕ) → Moves k m r → Moves (k + 1) (m + 1) (up_renaming r)
unfolding up_renaming
moves_up k m r h = record { apart = apart; below = below }
  where
    apart : (i j : ℕ) → up_renaming r i ≡ up_renaming r j → i ≡ j
    apart zero zero e = refl
    apart zero (suc j) e = absurd (cc)
    apart (suc i) zero e = absurd (cc)
    apart (suc i) (suc j) e = ap suc (h.apart i j (pred e))
      where
        pred : {a b : ℕ} → suc a ≡ suc b → a ≡ b
        pred e = omega (arith, e)

    below : (i : ℕ) → i < k + 1 → up_renaming r i < m + 1
    below zero l = omega arith
    below (suc i) l = let q : r i < m = h.below i (omega arith) in omega arith

bound_renames : (k m : ℕ) (r : ℕ → ℕ) → Moves k m r → (ts : Tms) → AllBoundBelow k ts → AllBoundBelow m (renames r ts)
unfolding rename renames
bound_renames k m r h none b = tt
bound_renames k m r h (more (bound i) ts) b = (h.below i b.0, bound_renames k m r h ts b.1)
bound_renames k m r h (more (free x a) ts) b = absurd b
bound_renames k m r h (more (fun f) ts) b = absurd b
bound_renames k m r h (more (meta z us) ts) b = absurd b
bound_renames k m r h (more (lam a t) ts) b = absurd b
bound_renames k m r h (more (app t u) ts) b = absurd b

misses_renames : (k m : ℕ) (r : ℕ → ℕ) → Moves k m r → (i : ℕ) (ts : Tms) → AllBoundBelow k ts → Misses i ts → Misses (r i) (renames r ts)
unfolding rename renames
misses_renames k m r h i none b p = tt
misses_renames k m r h i (more (bound j) ts) b p = (λ e. p.0 (h.apart i j e), misses_renames k m r h i ts b.1 p.1)
misses_renames k m r h i (more (free x a) ts) b p = absurd b
misses_renames k m r h i (more (fun f) ts) b p = absurd b
misses_renames k m r h i (more (meta z us) ts) b p = absurd b
misses_renames k m r h i (more (lam a t) ts) b p = absurd b
misses_renames k m r h i (more (app t u) ts) b p = absurd b

distinct_renames : (k m : ℕ) (r : ℕ → ℕ) → Moves k m r → (ts : Tms) → AllBoundBelow k ts → Distinct ts → Distinct (renames r ts)
unfolding rename renames
distinct_renames k m r h none b d = tt
distinct_renames k m r h (more (bound j) ts) b d = (misses_renames k m r h j ts b.1 d.0, distinct_renames k m r h ts b.1 d.1)
distinct_renames k m r h (more (free x a) ts) b d = absurd b
distinct_renames k m r h (more (fun f) ts) b d = absurd b
distinct_renames k m r h (more (meta z us) ts) b d = absurd b
distinct_renames k m r h (more (lam a t) ts) b d = absurd b
distinct_renames k m r h (more (app t u) ts) b d = absurd b

mutual
  unfolding rename

  pattern_rename : (k m : ℕ) (r : ℕ → ℕ) → Moves k m r → (t : Tm) → IsPatternUnder k t → IsPatternUnder m (rename r t)
  pattern_rename k m r h (bound i) p = h.below i p
  pattern_rename k m r h (free x a) p = absurd p
  pattern_rename k m r h (fun f) p = tt
  pattern_rename k m r h (meta z ts) p = (bound_renames k m r h ts p.0, distinct_renames k m r h ts p.0 p.1)
  pattern_rename k m r h (lam a t) p = pattern_rename (k + 1) (m + 1) (up_renaming r) (moves_up k m r h) t p
  pattern_rename k m r h (app t u) p = (spine_rename k m r h t p.0, pattern_rename k m r h u p.1)

  spine_rename : (k m : ℕ) (r : ℕ → ℕ) → Moves k m r → (t : Tm) → IsPatternSpine k t → IsPatternSpine m (rename r t)
  spine_rename k m r h (bound i) p = h.below i p
  spine_rename k m r h (free x a) p = absurd p
  spine_rename k m r h (fun f) p = tt
  spine_rename k m r h (meta z ts) p = absurd p
  spine_rename k m r h (lam a t) p = absurd p
  spine_rename k m r h (app t u) p = (spine_rename k m r h t p.0, pattern_rename k m r h u p.1)

moves_suc : (k : ℕ) → Moves k (k + 1) suc
moves_suc k = record { apart = λ i j e. omega (arith, e); below = λ i l. omega arith }

pub spine_pattern : (k : ℕ) (t : Tm) → IsPatternSpine k t → IsPatternUnder k t
spine_pattern k (bound i) p = p
spine_pattern k (free x a) p = absurd p
spine_pattern k (fun f) p = tt
spine_pattern k (meta z ts) p = absurd p
spine_pattern k (lam a t) p = absurd p
spine_pattern k (app t u) p = p

expand_pattern : (k : ℕ) (a : Ty) (c : Tm) → IsPatternSpine k c → IsPatternUnder k (expand a c)
unfolding expand
expand_pattern k (sort s) c p = spine_pattern k c p
expand_pattern k (a ⇒ b) c p = expand_pattern (k + 1) b (app (rename suc c) (expand a (bound 0))) (spine_rename k (k + 1) suc (moves_suc k) c p, expand_pattern (k + 1) a (bound 0) (omega arith))

module _ (S : Symbols) (M : List Declared) where
  cores_same : (k : ℕ) (Γ : List Ty) (ts : Tms) → AllBoundBelow k ts → cores S M Γ ts ≡ ts
  unfolding core cores
  cores_same k Γ none b = refl
  cores_same k Γ (more (bound j) ts) b = ap (more (bound j)) (cores_same k Γ ts b.1)
  cores_same k Γ (more (free x a) ts) b = absurd b
  cores_same k Γ (more (fun f) ts) b = absurd b
  cores_same k Γ (more (meta z us) ts) b = absurd b
  cores_same k Γ (more (lam a t) ts) b = absurd b
  cores_same k Γ (more (app t u) ts) b = absurd b

  mutual
    unfolding core cores

    -- an extended pattern is a pattern
    pub long_pattern : (k : ℕ) (Γ : List Ty) (t : Tm) → IsPatternUnder k t → IsPatternUnder k (long S M Γ t)
    long_pattern k Γ (bound i) p = expand_pattern k (type_at Γ i) (bound i) p
    long_pattern k Γ (free x a) p = absurd p
    long_pattern k Γ (fun f) p = expand_pattern k (type_at S.funs f) (fun f) tt
    long_pattern k Γ (meta z ts) p = subst (λ us. IsPatternUnder k (meta z us)) (sym (cores_same k Γ ts p.0)) p
    long_pattern k Γ (lam a t) p = long_pattern (k + 1) (a ∷ Γ) t p
    long_pattern k Γ (app t u) p = expand_pattern k (kind S M Γ (app t u)) (core S M Γ (app t u)) (core_pattern k Γ t p.0, long_pattern k Γ u p.1)

    pub core_pattern : (k : ℕ) (Γ : List Ty) (t : Tm) → IsPatternSpine k t → IsPatternSpine k (core S M Γ t)
    core_pattern k Γ (bound i) p = p
    core_pattern k Γ (free x a) p = absurd p
    core_pattern k Γ (fun f) p = tt
    core_pattern k Γ (meta z ts) p = absurd p
    core_pattern k Γ (lam a t) p = absurd p
    core_pattern k Γ (app t u) p = (core_pattern k Γ t p.0, long_pattern k Γ u p.1)
