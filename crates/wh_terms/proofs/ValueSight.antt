-- Which loose variables and meta-variables the value of a pattern or meta-term has, and what that says of the bodies.
use Rattle.std.proofs.Common.{◌≡◌, ℕ, zero, suc, ◌+◌, ◌<◌, refl, ap, sym, ◌∙◌, subst, inl, inr, arith}
use Rattle.wh_terms.specs.Tree.{Tm, bound, free, fun, meta, lam, app, Tms, none, more, count}
use Rattle.wh_terms.specs.Substitution.{up_renaming, rename, cons}
use Rattle.wh_terms.specs.Sight.{IsTerm, Occurs, OccursIn, LooseBelow, AllLooseBelow}
use Rattle.wh_terms.specs.Pattern.{AllBoundBelow, IsPatternUnder, IsPatternSpine}
use Rattle.wh_terms.specs.Value.{Body, parameters}
use Rattle.wh_terms.proofs.LooseLaws.{loose-act, loose-act-back, loose-rename, loose-rename-back}
use Rattle.wh_terms.proofs.TermLaws.{term-rename, term-rename-back, term-act, term-act-back}
use Rattle.wh_terms.proofs.ValueForm.{up_times, shifted, value, values, FitsBodies, AllFitBodies, count-values}

-- each tree of the list is a term
abbrev pub AllTerms : Tms → Type 0
AllTerms none = Unit {0}
AllTerms (more t ts) = IsTerm t × AllTerms ts

-- the loose variables that a body may have: its parameters, and k more
abbrev pub LooseBodies : ℕ → (ℕ → Body) → Tm → Type 0
LooseBodies k g t = (z : ℕ) → Occurs z t → LooseBelow ((g z).arity + k) (g z).tree

abbrev pub TermBodies : (ℕ → Body) → Tm → Type 0
TermBodies g t = (z : ℕ) → Occurs z t → IsTerm (g z).tree

pub loose-parameters : (k : ℕ) (ts : Tms) (m : ℕ) (σ : ℕ → Tm) → AllLooseBelow k ts → ((i : ℕ) → i < m → LooseBelow k (σ i))
    → (i : ℕ) → i < count ts + m → LooseBelow k (parameters ts σ i)
unfolding parameters cons
loose-parameters k none m σ l h i b = h i (omega arith)
loose-parameters k (more t ts) m σ l h i b = loose-parameters k ts (m + 1) (cons t σ) l.1 below i (omega arith)
  where
    below : (j : ℕ) → j < m + 1 → LooseBelow k (cons t σ j)
    below zero c = l.0
    below (suc j) c = h j (omega arith)

up_times_below : (n k m : ℕ) (ρ : ℕ → ℕ) → ((i : ℕ) → i < k → ρ i < m) → (i : ℕ) → i < n + k → up_times n ρ i < n + m
unfolding up_times up_renaming
up_times_below zero k m ρ h i b = let c : ρ i < m = h i (omega arith) in omega arith
up_times_below (suc n) k m ρ h i b = let c : up_times n (up_renaming ρ) i < n + (m + 1) = up_times_below n (k + 1) (m + 1) (up_renaming ρ) up_below i (omega arith) in omega arith
  where
    up_below : (j : ℕ) → j < k + 1 → up_renaming ρ j < m + 1
    up_below zero c = omega arith
    up_below (suc j) c = let d : ρ j < m = h j (omega arith) in omega arith

up_times_below-back : (n k m : ℕ) (ρ : ℕ → ℕ) → ((i : ℕ) → ρ i < m → i < k) → (i : ℕ) → up_times n ρ i < n + m → i < n + k
unfolding up_times up_renaming
up_times_below-back zero k m ρ h i b = let c : i < k = h i (omega arith) in omega arith
up_times_below-back (suc n) k m ρ h i b = let c : i < n + (k + 1) = up_times_below-back n (k + 1) (m + 1) (up_renaming ρ) up_below i (omega arith) in omega arith
  where
    up_below : (j : ℕ) → up_renaming ρ j < m + 1 → j < k + 1
    up_below zero c = omega arith
    up_below (suc j) c = let d : j < k = h j (omega arith) in omega arith

loose_body-shift : (k n : ℕ) (b : Tm) → LooseBelow (n + k) b → LooseBelow (n + (k + 1)) (rename (up_times n suc) b)
loose_body-shift k n b l = loose-rename (n + k) (n + (k + 1)) (up_times n suc) b (up_times_below n k (k + 1) suc (λ i h. omega arith)) l

loose_body-shift-back : (k n : ℕ) (b : Tm) → LooseBelow (n + (k + 1)) (rename (up_times n suc) b) → LooseBelow (n + k) b
loose_body-shift-back k n b l = loose-rename-back (n + k) (n + (k + 1)) (up_times n suc) b (up_times_below-back n k (k + 1) suc (λ i h. omega arith)) l

mutual
  unfolding value values

  -- the value has no more loose variables than the meta-term and the bodies bring
  pub loose-value : (k : ℕ) (g : ℕ → Body) (t : Tm) → FitsBodies g t → LooseBelow k t → LooseBodies k g t → LooseBelow k (value g t)
  loose-value k g (bound i) f l h = l
  loose-value k g (free x a) f l h = tt
  loose-value k g (fun c) f l h = tt
  loose-value k g (meta z ts) f l h =
      loose-act (count ts + k) k (parameters (values g ts) bound) free (g z).tree
      (λ i b. loose-parameters k (values g ts) k bound (all_loose-values k g ts f.1 l (λ y o. h y (inr o))) (λ j c. c) i (subst (λ n. i < n + k) (sym (count-values g ts)) b))
      (λ x a. tt) (subst (λ n. LooseBelow (n + k) (g z).tree) f.0 (h z (inl refl)))
  loose-value k g (lam a t) f l h = loose-value (k + 1) (shifted g) t f l (λ z o. loose_body-shift k (g z).arity (g z).tree (h z o))
  loose-value k g (app t u) f l h = (loose-value k g t f.0 l.0 (λ z o. h z (inl o)), loose-value k g u f.1 l.1 (λ z o. h z (inr o)))

  pub all_loose-values : (k : ℕ) (g : ℕ → Body) (ts : Tms) → AllFitBodies g ts → AllLooseBelow k ts → ((z : ℕ) → OccursIn z ts → LooseBelow ((g z).arity + k) (g z).tree)
      → AllLooseBelow k (values g ts)
  all_loose-values k g none f l h = tt
  all_loose-values k g (more t ts) f l h = (loose-value k g t f.0 l.0 (λ z o. h z (inl o)), all_loose-values k g ts f.1 l.1 (λ z o. h z (inr o)))

term-parameters : (ts : Tms) (σ : ℕ → Tm) → AllTerms ts → ((i : ℕ) → IsTerm (σ i)) → (i : ℕ) → IsTerm (parameters ts σ i)
unfolding parameters cons
term-parameters none σ p h i = h i
term-parameters (more t ts) σ p h i = term-parameters ts (cons t σ) p.1 each i
  where
    each : (j : ℕ) → IsTerm (cons t σ j)
    each zero = p.0
    each (suc j) = h j

mutual
  unfolding value values

  -- the value is a term if the bodies are
  pub term-value : (g : ℕ → Body) (t : Tm) → TermBodies g t → IsTerm (value g t)
  term-value g (bound i) h = tt
  term-value g (free x a) h = tt
  term-value g (fun c) h = tt
  term-value g (meta z ts) h =
      term-act (parameters (values g ts) bound) free (g z).tree (term-parameters (values g ts) bound (all_term-values g ts (λ y o. h y (inr o))) (λ i. tt)) (λ x a. tt) (h z (inl refl))
  term-value g (lam a t) h = term-value (shifted g) t (λ z o. term-rename (up_times (g z).arity suc) (g z).tree (h z o))
  term-value g (app t u) h = (term-value g t (λ z o. h z (inl o)), term-value g u (λ z o. h z (inr o)))

  pub all_term-values : (g : ℕ → Body) (ts : Tms) → ((z : ℕ) → OccursIn z ts → IsTerm (g z).tree) → AllTerms (values g ts)
  all_term-values g none h = tt
  all_term-values g (more t ts) h = (term-value g t (λ z o. h z (inl o)), all_term-values g ts (λ z o. h z (inr o)))

-- no meta-variable stands among variables
pub bound_occurs : (k z : ℕ) (ts : Tms) → AllBoundBelow k ts → OccursIn z ts → ⊥
bound_occurs k z none b o = o
bound_occurs k z (more (bound i) ts) b (inl o) = o
bound_occurs k z (more (bound i) ts) b (inr o) = bound_occurs k z ts b.1 o
bound_occurs k z (more (free x a) ts) b o = b
bound_occurs k z (more (fun f) ts) b o = b
bound_occurs k z (more (meta y us) ts) b o = b
bound_occurs k z (more (lam a t) ts) b o = b
bound_occurs k z (more (app t u) ts) b o = b

-- variables are their own values
pub bound_values : (k : ℕ) (g : ℕ → Body) (ts : Tms) → AllBoundBelow k ts → values g ts ≡ ts
unfolding value values
bound_values k g none b = refl
bound_values k g (more (bound i) ts) b = ap (more (bound i)) (bound_values k g ts b.1)
bound_values k g (more (free x a) ts) b = absurd b
bound_values k g (more (fun f) ts) b = absurd b
bound_values k g (more (meta y us) ts) b = absurd b
bound_values k g (more (lam a t) ts) b = absurd b
bound_values k g (more (app t u) ts) b = absurd b

loose-parameters-back : (k : ℕ) (ts : Tms) (m : ℕ) (σ : ℕ → Tm) → ((i : ℕ) → LooseBelow k (σ i) → i < m) → (i : ℕ) → LooseBelow k (parameters ts σ i) → i < count ts + m
unfolding parameters cons
loose-parameters-back k none m σ h i l = let b : i < m = h i l in omega arith
loose-parameters-back k (more t ts) m σ h i l = let b : i < count ts + (m + 1) = loose-parameters-back k ts (m + 1) (cons t σ) each i l in omega arith
  where
    each : (j : ℕ) → LooseBelow k (cons t σ j) → j < m + 1
    each zero c = omega arith
    each (suc j) c = let d : j < m = h j c in omega arith

mutual
  unfolding value

  -- where the value of a pattern has no loose variable from k on, the bodies have none either, beside their parameters
  pub pattern_loose : (m k : ℕ) (g : ℕ → Body) (p : Tm) → IsPatternUnder m p → FitsBodies g p → LooseBelow k (value g p) → LooseBodies k g p
  pattern_loose m k g (meta z ts) p f l y (inl e) =
      subst (λ y. LooseBelow ((g y).arity + k) (g y).tree) e
      (subst (λ n. LooseBelow (n + k) (g z).tree) (sym (f.0 ∙ sym (count-values g ts)))
      (loose-act-back (count (values g ts) + k) k (parameters (values g ts) bound) free (g z).tree (loose-parameters-back k (values g ts) k bound (λ i b. b)) l))
  pattern_loose m k g (meta z ts) p f l y (inr o) = absurd (bound_occurs m y ts p.0 o)
  pattern_loose m k g (lam a t) p f l z o = loose_body-shift-back k (g z).arity (g z).tree (pattern_loose (m + 1) (k + 1) (shifted g) t p f l z o)
  pattern_loose m k g (bound i) p f l z o = absurd o
  pattern_loose m k g (fun c) p f l z o = absurd o
  pattern_loose m k g (free x a) p f l z o = absurd o
  pattern_loose m k g (app t u) p f l z (inl o) = spine_loose m k g t p.0 f.0 l.0 z o
  pattern_loose m k g (app t u) p f l z (inr o) = pattern_loose m k g u p.1 f.1 l.1 z o

  pub spine_loose : (m k : ℕ) (g : ℕ → Body) (p : Tm) → IsPatternSpine m p → FitsBodies g p → LooseBelow k (value g p) → LooseBodies k g p
  spine_loose m k g (bound i) p f l z o = absurd o
  spine_loose m k g (fun c) p f l z o = absurd o
  spine_loose m k g (free x a) p f l z o = absurd o
  spine_loose m k g (meta y ts) p f l z o = absurd p
  spine_loose m k g (lam a t) p f l z o = absurd p
  spine_loose m k g (app t u) p f l z (inl o) = spine_loose m k g t p.0 f.0 l.0 z o
  spine_loose m k g (app t u) p f l z (inr o) = pattern_loose m k g u p.1 f.1 l.1 z o

mutual
  unfolding value

  -- where the value of a pattern is a term, so are the bodies
  pub pattern_term : (m : ℕ) (g : ℕ → Body) (p : Tm) → IsPatternUnder m p → IsTerm (value g p) → TermBodies g p
  pattern_term m g (meta z ts) p h y (inl e) = subst (λ y. IsTerm (g y).tree) e (term-act-back (parameters (values g ts) bound) free (g z).tree h)
  pattern_term m g (meta z ts) p h y (inr o) = absurd (bound_occurs m y ts p.0 o)
  pattern_term m g (lam a t) p h z o = term-rename-back (up_times (g z).arity suc) (g z).tree (pattern_term (m + 1) (shifted g) t p h z o)
  pattern_term m g (bound i) p h z o = absurd o
  pattern_term m g (fun c) p h z o = absurd o
  pattern_term m g (free x a) p h z o = absurd o
  pattern_term m g (app t u) p h z (inl o) = spine_term m g t p.0 h.0 z o
  pattern_term m g (app t u) p h z (inr o) = pattern_term m g u p.1 h.1 z o

  pub spine_term : (m : ℕ) (g : ℕ → Body) (p : Tm) → IsPatternSpine m p → IsTerm (value g p) → TermBodies g p
  spine_term m g (bound i) p h z o = absurd o
  spine_term m g (fun c) p h z o = absurd o
  spine_term m g (free x a) p h z o = absurd o
  spine_term m g (meta y ts) p h z o = absurd p
  spine_term m g (lam a t) p h z o = absurd p
  spine_term m g (app t u) p h z (inl o) = spine_term m g t p.0 h.0 z o
  spine_term m g (app t u) p h z (inr o) = pattern_term m g u p.1 h.1 z o
