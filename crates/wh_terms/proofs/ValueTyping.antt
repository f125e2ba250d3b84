-- Types of values: typed bodies give a typed value, and the typed value of a pattern has typed bodies.
use Rattle.std.proofs.Common.{◌≡◌, ℕ, zero, suc, ◌+◌, List, [], ◌∷◌, length, Some, refl, ap, sym, ◌∙◌, subst, subst₂, inl, inr, one-add}
use Rattle.std.specs.Prelude.{slice_get}
use Rattle.wh_types.specs.Ty.{Ty}
use Rattle.wh_terms.specs.Tree.{Tm, bound, free, fun, meta, lam, app, Tms, none, more, count, head, argument_count}
use Rattle.wh_terms.specs.Substitution.{up_renaming, rename, act, cons}
use Rattle.wh_terms.specs.Sight.{OccursIn}
use Rattle.wh_terms.specs.Pattern.{AllBoundBelow, IsPatternUnder, IsPatternSpine}
use Rattle.wh_terms.specs.Typing.{Symbols, Declared, Typed, typed_bound, typed_free, typed_fun, typed_meta, typed_lam, typed_app, AllTyped, typed_none, typed_more}
use Rattle.wh_terms.specs.Value.{Body, parameters}
use Rattle.wh_terms.specs.TypedBodies.{parameter_types, FitsDeclared, TypedBodies}
use Rattle.wh_terms.proofs.TypingLaws.{bound_type, up_renaming_typed, up_renaming_typed-back, some_one, domain_one, codomain_one, FitsLoose, TellsLoose, fits-cons, fits-bound, fits-free, typed-act, typed-act-back, typed-rename, typed-rename-back}
use Rattle.wh_terms.proofs.ValueForm.{up_times, shifted, value, values, FitsBodies}
use Rattle.wh_terms.proofs.ValueSight.{bound_occurs, bound_values}

abbrev pub TypedBodiesIn : Symbols → List Declared → List Declared → List Ty → (ℕ → Body) → Tms → Type 0
TypedBodiesIn S M N Γ g ts = (z : ℕ) (d : Declared) → OccursIn z ts → slice_get M z ≡ Some d → FitsDeclared S N Γ d (g z)

up_times_typed : (cs : List Ty) (Γ Δ : List Ty) (ρ : ℕ → ℕ) → ((i : ℕ) (b : Ty) → slice_get Γ i ≡ Some b → slice_get Δ (ρ i) ≡ Some b)
    → (i : ℕ) (b : Ty) → slice_get (parameter_types cs Γ) i ≡ Some b → slice_get (parameter_types cs Δ) (up_times (length cs) ρ i) ≡ Some b
unfolding up_times
up_times_typed [] Γ Δ ρ h i b e = h i b e
up_times_typed (c ∷ cs) Γ Δ ρ h i b e = up_times_typed cs (c ∷ Γ) (c ∷ Δ) (up_renaming ρ) (up_renaming_typed Γ Δ ρ c h) i b e

up_times_typed-back : (cs : List Ty) (Γ Δ : List Ty) (ρ : ℕ → ℕ) → ((i : ℕ) (b : Ty) → slice_get Δ (ρ i) ≡ Some b → slice_get Γ i ≡ Some b)
    → (i : ℕ) (b : Ty) → slice_get (parameter_types cs Δ) (up_times (length cs) ρ i) ≡ Some b → slice_get (parameter_types cs Γ) i ≡ Some b
unfolding up_times
up_times_typed-back [] Γ Δ ρ h i b e = h i b e
up_times_typed-back (c ∷ cs) Γ Δ ρ h i b e = up_times_typed-back cs (c ∷ Γ) (c ∷ Δ) (up_renaming ρ) (up_renaming_typed-back Γ Δ ρ c h) i b e

-- a typed body, moved below one binder more, and back
fits_declared-shift : {S : Symbols} {N : List Declared} {Γ : List Ty} {d : Declared} (a : Ty) (g : ℕ → Body) (z : ℕ) → FitsDeclared S N Γ d (g z) → FitsDeclared S N (a ∷ Γ) d (shifted g z)
fits_declared-shift {S = S} {N = N} {Γ = Γ} {d = d} a g z h = record {
  counted = h.counted;
  typed = subst (λ n. Typed S N (parameter_types d.args (a ∷ Γ)) (rename (up_times n suc) (g z).tree) d.out) (sym h.counted)
      (typed-rename (parameter_types d.args (a ∷ Γ)) (up_times (length d.args) suc) (up_times_typed d.args Γ (a ∷ Γ) suc (λ i b e. e)) h.typed);
}

fits_declared-shift-back : {S : Symbols} {N : List Declared} {Γ : List Ty} {d : Declared} (a : Ty) (g : ℕ → Body) (z : ℕ) → FitsDeclared S N (a ∷ Γ) d (shifted g z) → FitsDeclared S N Γ d (g z)
fits_declared-shift-back {S = S} {N = N} {Γ = Γ} {d = d} a g z h = record {
  counted = h.counted;
  typed = typed-rename-back (parameter_types d.args Γ) (up_times (length d.args) suc) (g z).tree (up_times_typed-back d.args Γ (a ∷ Γ) suc (λ i b e. e))
      (subst (λ n. Typed S N (parameter_types d.args (a ∷ Γ)) (rename (up_times n suc) (g z).tree) d.out) h.counted h.typed);
}

pub fits-parameters : {S : Symbols} {N : List Declared} {Δ : List Ty} {ts : Tms} {cs : List Ty} (Γ : List Ty) (σ : ℕ → Tm) → AllTyped S N Δ ts cs → FitsLoose S N Γ Δ σ → FitsLoose S N (parameter_types cs Γ) Δ (parameters ts σ)
unfolding parameters
fits-parameters Γ σ typed_none h = h
fits-parameters Γ σ (typed_more {Γ = Δ} {t = t} {a = a} p ps) h = fits-parameters (a ∷ Γ) (cons t σ) ps (fits-cons Γ Δ t σ a p h)

-- a typed body with typed arguments is typed
pub typed-body : {S : Symbols} {N : List Declared} {Γ : List Ty} {ts : Tms} {d : Declared} (b : Body) → FitsDeclared S N Γ d b → AllTyped S N Γ ts d.args
    → Typed S N Γ (act (parameters ts bound) free b.tree) d.out
typed-body {Γ = Γ} {ts = ts} b h ps = typed-act Γ (parameters ts bound) free (fits-parameters Γ bound ps (fits-bound Γ)) (fits-free Γ) h.typed

mutual
  unfolding value values

  -- typed bodies give a typed value
  pub typed-value : {S : Symbols} {M N : List Declared} {Γ : List Ty} {t : Tm} {a : Ty} (g : ℕ → Body) → Typed S M Γ t a → TypedBodies S M N Γ g t → Typed S N Γ (value g t) a
  typed-value g (typed_bound e) h = typed_bound e
  typed-value g (typed_free p) h = typed_free p
  typed-value g (typed_fun e) h = typed_fun e
  typed-value {S = S} {N = N} {Γ = Γ} g (typed_meta {z = z} {ts = ts} {d = d} e ps o) h =
      subst (λ c. Typed S N Γ (value g (meta z ts)) c) (sym o) (typed-body (g z) (h z d (inl refl) e) (all_typed-values g ps (λ y c k q. h y c (inr k) q)))
  typed-value g (typed_lam {a = a} p q) h = typed_lam p (typed-value (shifted g) q (λ z d o e. fits_declared-shift a g z (h z d o e)))
  typed-value g (typed_app p q) h = typed_app (typed-value g p (λ z d o e. h z d (inl o) e)) (typed-value g q (λ z d o e. h z d (inr o) e))

  pub all_typed-values : {S : Symbols} {M N : List Declared} {Γ : List Ty} {ts : Tms} {cs : List Ty} (g : ℕ → Body) → AllTyped S M Γ ts cs → TypedBodiesIn S M N Γ g ts → AllTyped S N Γ (values g ts) cs
  all_typed-values g typed_none h = typed_none
  all_typed-values g (typed_more p ps) h = typed_more (typed-value g p (λ z d o e. h z d (inl o) e)) (all_typed-values g ps (λ z d o e. h z d (inr o) e))

-- the number of typed trees is that of their types
pub typed_count : {S : Symbols} {M : List Declared} {Γ : List Ty} {ts : Tms} {cs : List Ty} → AllTyped S M Γ ts cs → count ts ≡ length cs
typed_count typed_none = refl
typed_count (typed_more {ts = ts} {bs = cs} p ps) = one-add (count ts) ∙ ap suc (typed_count ps)

tells-parameters : {S : Symbols} {M N : List Declared} {Δ : List Ty} {cs : List Ty} (k : ℕ) (ts : Tms) (Γ : List Ty) (σ : ℕ → Tm) → AllBoundBelow k ts → AllTyped S M Δ ts cs
    → TellsLoose S N Γ Δ σ → TellsLoose S N (parameter_types cs Γ) Δ (parameters ts σ)
unfolding parameters cons
tells-parameters k none Γ σ b typed_none h = h
tells-parameters k (more (free x a) ts) Γ σ b p h = absurd b
tells-parameters k (more (fun f) ts) Γ σ b p h = absurd b
tells-parameters k (more (meta z us) ts) Γ σ b p h = absurd b
tells-parameters k (more (lam a t) ts) Γ σ b p h = absurd b
tells-parameters k (more (app t u) ts) Γ σ b p h = absurd b
tells-parameters {S = S} {N = N} {Δ = Δ} k (more (bound j) ts) Γ σ b (typed_more {a = a} (typed_bound e) ps) h = tells-parameters k ts (a ∷ Γ) (cons (bound j) σ) b.1 ps tells
  where
    told : (c : Ty) → Typed S N Δ (bound j) c → Some a ≡ Some c
    told c (typed_bound q) = sym e ∙ q

    tells : TellsLoose S N (a ∷ Γ) Δ (cons (bound j) σ)
    tells zero c q = told c q
    tells (suc i) c q = h i c q

-- a meta-variable with distinct variables: its typed value has a typed body
meta_body : {S : Symbols} {M N : List Declared} {Γ : List Ty} {d : Declared} (k : ℕ) (ts : Tms) (b : Body) → AllBoundBelow k ts → b.arity ≡ count ts → AllTyped S M Γ ts d.args
    → Typed S N Γ (act (parameters ts bound) free b.tree) d.out → FitsDeclared S N Γ d b
meta_body {Γ = Γ} {d = d} k ts b v n ps p = record {
  counted = n ∙ typed_count ps;
  typed = typed-act-back (parameter_types d.args Γ) (parameters ts bound) b.tree (tells-parameters k ts Γ bound v ps (λ i c q. bound_type i q)) p;
}

mutual
  unfolding value

  -- the typed value of a typed pattern has typed bodies
  pub pattern_bodies : {S : Symbols} {M N : List Declared} {Γ : List Ty} {a b : Ty} (k : ℕ) (g : ℕ → Body) (p : Tm) → IsPatternUnder k p → FitsBodies g p → Typed S M Γ p a → Typed S N Γ (value g p) b → a ≡ b
      → TypedBodies S M N Γ g p
  pattern_bodies k g (bound i) p f t v m z d o e = absurd o
  pattern_bodies k g (fun c) p f t v m z d o e = absurd o
  pattern_bodies k g (free x b) p f t v m z d o e = absurd o
  pattern_bodies {S = S} {M = M} {N = N} {Γ = Γ} k g (meta z ts) p f (typed_meta {d = c} q ps w) v m y d (inl e) s =
      let same : c ≡ d = some_one (sym q ∙ ap (λ n. slice_get M n) e ∙ s) in
      let one : Typed S N Γ (act (parameters ts bound) free (g z).tree) c.out = subst₂ (λ us b. Typed S N Γ (act (parameters us bound) free (g z).tree) b) (bound_values k g ts p.0) (sym m ∙ w) v in
      subst₂ (λ d y. FitsDeclared S N Γ d (g y)) same e (meta_body k ts (g z) p.0 f.0 ps one)
  pattern_bodies k g (meta z ts) p f t v m y d (inr o) e = absurd (bound_occurs k y ts p.0 o)
  pattern_bodies k g (lam c u) p f (typed_lam s t) (typed_lam r v) m z d o e = fits_declared-shift-back c g z (pattern_bodies (k + 1) (shifted g) u p f t v (codomain_one m) z d o e)
  pattern_bodies k g (app t u) p f (typed_app q r) (typed_app v w) m z d (inl o) e = (spine_bodies k g t p.0 f.0 q v).1 z d o e
  pattern_bodies k g (app t u) p f (typed_app q r) (typed_app v w) m z d (inr o) e = pattern_bodies k g u p.1 f.1 r w (domain_one (spine_bodies k g t p.0 f.0 q v).0) z d o e

  pub spine_bodies : {S : Symbols} {M N : List Declared} {Γ : List Ty} {a b : Ty} (k : ℕ) (g : ℕ → Body) (p : Tm) → IsPatternSpine k p → FitsBodies g p → Typed S M Γ p a → Typed S N Γ (value g p) b
      → (a ≡ b) × TypedBodies S M N Γ g p
  spine_bodies k g (bound i) p f (typed_bound e) (typed_bound q) = (some_one (sym e ∙ q), λ z d o s. absurd o)
  spine_bodies k g (fun c) p f (typed_fun e) (typed_fun q) = (some_one (sym e ∙ q), λ z d o s. absurd o)
  spine_bodies k g (free x b) p f t v = absurd p
  spine_bodies k g (meta z ts) p f t v = absurd p
  spine_bodies k g (lam c u) p f t v = absurd p
  spine_bodies {S = S} {M = M} {N = N} {Γ = Γ} k g (app t u) p f (typed_app q r) (typed_app v w) =
      let (e, h) = spine_bodies k g t p.0 f.0 q v in
      (codomain_one e, app_bodies h (pattern_bodies k g u p.1 f.1 r w (domain_one e)))
    where
      app_bodies : TypedBodies S M N Γ g t → TypedBodies S M N Γ g u → TypedBodies S M N Γ g (app t u)
      app_bodies h k z d (inl o) s = h z d o s
      app_bodies h k z d (inr o) s = k z d o s

-- a pattern that is headed by a symbol is a symbol with arguments
pub headed_spine : (k f : ℕ) (p : Tm) → IsPatternUnder k p → head p ≡ fun f → IsPatternSpine k p
headed_spine k f (bound i) p e = p
headed_spine k f (fun c) p e = tt
headed_spine k f (free x a) p e = absurd p
headed_spine k f (meta z ts) p e = absurd (cc)
headed_spine k f (lam a t) p e = absurd (cc)
headed_spine k f (app t u) p e = p

-- its values are headed by that symbol, and have as many arguments
pub head-value : (k : ℕ) (g : ℕ → Body) (p : Tm) → IsPatternSpine k p → (f : ℕ) → head p ≡ fun f → head (value g p) ≡ fun f
unfolding value
head-value k g (bound i) s f e = absurd (cc)
head-value k g (fun c) s f e = e
head-value k g (free x a) s f e = absurd s
head-value k g (meta z ts) s f e = absurd s
head-value k g (lam a t) s f e = absurd s
head-value k g (app t u) s f e = head-value k g t s.0 f e

pub argument_count-value : (k : ℕ) (g : ℕ → Body) (p : Tm) → IsPatternSpine k p → argument_count (value g p) ≡ argument_count p
unfolding value
argument_count-value k g (bound i) s = refl
argument_count-value k g (fun c) s = refl
argument_count-value k g (free x a) s = absurd s
argument_count-value k g (meta z ts) s = absurd s
argument_count-value k g (lam a t) s = absurd s
argument_count-value k g (app t u) s = ap (λ n. n + 1) (argument_count-value k g t s.0)
