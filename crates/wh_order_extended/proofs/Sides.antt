-- Instances of extended sides step to extended instances.
use Rattle.std.proofs.Common.{◌≡◌, ℕ, zero, suc, ◌+◌, List, [], ◌∷◌, length, refl, ap, ap₂, ◌∙◌, sym, subst, Some, slice_get, inl, inr}
use Rattle.std.proofs.lemmas.Option.{none-some, same_Some}
use Rattle.wh_types.specs.Ty.{Ty, sort, ◌⇒◌}
use Rattle.wh_terms.specs.Tree.{Tm, bound, free, fun, meta, lam, app, Tms, none, more, count}
use Rattle.wh_terms.specs.Substitution.{up_renaming, rename, up, up_free, act, cons}
use Rattle.wh_terms.specs.Sight.{IsTerm, OccursIn}
use Rattle.wh_terms.specs.Typing.{Symbols, Declared, Typed, typed_bound, typed_free, typed_fun, typed_meta, typed_lam, typed_app, AllTyped, typed_none, typed_more}
use Rattle.wh_terms.specs.Value.{Body, parameters}
use Rattle.wh_terms.specs.TypedBodies.{parameter_types, FitsDeclared, TypedBodies}
use Rattle.wh_terms.specs.StepOver.{StepOver}
use Rattle.wh_terms.proofs.ActLaws.{rename-is-act}
use Rattle.wh_terms.proofs.TermLaws.{term-rename}
use Rattle.wh_terms.proofs.TypingLaws.{typed_term, some_one, up_renaming_typed, typed-rename}
use Rattle.wh_terms.proofs.ValueForm.{shifted, acted, value, values, value_same, FitsArities, AllFitArities, FitsBodies, AllFitBodies, act-value, up_times}
use Rattle.wh_terms.proofs.ValueLaws.{fits-act}
use Rattle.wh_terms.proofs.ValueTyping.{typed-value}
use Rattle.wh_order_extended.specs.Kinds.{type_at, kind}
use Rattle.wh_order_extended.specs.Long.{expand, finish, finish_argument, core, cores, long}
use Rattle.wh_order_extended.specs.Many.{Many, stay}
use Rattle.wh_order_extended.proofs.Expand.{IsRenamed, over-rename, many-body, many-app}
use Rattle.wh_order_extended.proofs.ManyLaws.{many_both, many_equal, many_map}
use Rattle.wh_order_extended.proofs.LongLaws.{kind_is, KeepsAll, keeps_up, long-rename, Put, variable, extension, Puts, Comes, as_core, as_long, in_app, app_long, long_act}
use Rattle.wh_order_extended.proofs.StepLong.{eta_all}
use Rattle.wh_order_extended.proofs.Acted.{acted_suc}

pub args_at : List Declared → ℕ → List Ty
args_at [] z = []
args_at (d ∷ M) zero = d.args
args_at (d ∷ M) (suc z) = args_at M z

pub args_is : (M : List Declared) (z : ℕ) (d : Declared) → slice_get M z ≡ Some d → args_at M z ≡ d.args
unfolding args_at
args_is [] z d e = absurd (none-some d e)
args_is (c ∷ M) zero d e = ap (λ d. d.args) (same_Some c d e)
args_is (c ∷ M) (suc z) d e = args_is M z d e

-- the types of n parameters, and behind them Γ
pub params : ℕ → List Ty → List Ty → List Ty
params zero cs Γ = Γ
params (suc n) [] Γ = params n [] (sort 0 ∷ Γ)
params (suc n) (c ∷ cs) Γ = params n cs (c ∷ Γ)

pub params_is : (cs Γ : List Ty) → params (length cs) cs Γ ≡ parameter_types cs Γ
unfolding params
params_is [] Γ = refl
params_is (c ∷ cs) Γ = params_is cs (c ∷ Γ)

params_keep : (n : ℕ) (cs Γ Δ : List Ty) (r : ℕ → ℕ) → KeepsAll Γ Δ r → KeepsAll (params n cs Γ) (params n cs Δ) (up_times n r)
unfolding params up_times
params_keep zero cs Γ Δ r h = h
params_keep (suc n) [] Γ Δ r h = params_keep n [] (sort 0 ∷ Γ) (sort 0 ∷ Δ) (up_renaming r) (keeps_up Γ Δ r (sort 0) h)
params_keep (suc n) (c ∷ cs) Γ Δ r h = params_keep n cs (c ∷ Γ) (c ∷ Δ) (up_renaming r) (keeps_up Γ Δ r c h)

value_shift : (g : ℕ → Body) (t : Tm) → FitsBodies g t → value (shifted g) (rename suc t) ≡ rename suc (value g t)
value_shift g t f =
    sym (rename-is-act suc (value g t) ∙ act-value (λ i. bound (suc i)) free g t (λ i. tt) (λ x a. tt) f
    ∙ value_same (acted (λ i. bound (suc i)) free g) (shifted g) (act (λ i. bound (suc i)) free t) (acted_suc g) ∙ ap (value (shifted g)) (sym (rename-is-act suc t)))

fits_rename : (n : ℕ → ℕ) (t : Tm) → FitsArities n t → FitsArities n (rename suc t)
fits_rename n t f = subst (FitsArities n) (sym (rename-is-act suc t)) (fits-act n (λ i. bound (suc i)) free t (λ i. tt) (λ x a. tt) f)

fits_expand : (n : ℕ → ℕ) (a : Ty) (t : Tm) → FitsArities n t → FitsArities n (expand a t)
unfolding expand
fits_expand n (sort s) t f = f
fits_expand n (a ⇒ b) t f = fits_expand n b (app (rename suc t) (expand a (bound 0))) (fits_rename n t f, fits_expand n a (bound 0) tt)

pub value_expand : (g : ℕ → Body) (a : Ty) (t : Tm) → FitsBodies g t → value g (expand a t) ≡ expand a (value g t)
unfolding expand value
value_expand g (sort s) t f = refl
value_expand g (a ⇒ b) t f = ap (lam a) (
    value_expand (shifted g) b (app (rename suc t) (expand a (bound 0))) (fits_rename (λ z. (g z).arity) t f, fits_expand (λ z. (g z).arity) a (bound 0) tt)
    ∙ ap (expand b) (ap₂ app (value_shift g t f) (value_expand (shifted g) a (bound 0) tt)))

term_expand : (a : Ty) (t : Tm) → IsTerm t → IsTerm (expand a t)
unfolding expand
term_expand (sort s) t p = p
term_expand (a ⇒ b) t p = term_expand b (app (rename suc t) (expand a (bound 0))) (term-rename suc t p, term_expand a (bound 0) tt)

term_finish : (t : Tm) (a : Ty) (c : Tm) → IsTerm c → IsTerm (finish t a c)
term_finish (bound i) a c f = term_expand a c f
term_finish (free x b) a c f = term_expand a c f
term_finish (fun g) a c f = term_expand a c f
term_finish (meta z ts) a c f = f
term_finish (lam b t) a c f = f
term_finish (app t u) a c f = term_expand a c f

core_term : (S : Symbols) (M : List Declared) (Γ : List Ty) (t : Tm) → IsTerm t → IsTerm (core S M Γ t)
unfolding core
core_term S M Γ (bound i) p = tt
core_term S M Γ (free x a) p = tt
core_term S M Γ (fun f) p = tt
core_term S M Γ (meta z ts) p = absurd p
core_term S M Γ (lam a t) p = term_finish t (kind S M (a ∷ Γ) t) (core S M (a ∷ Γ) t) (core_term S M (a ∷ Γ) t p)
core_term S M Γ (app t u) p = (core_term S M Γ t p.0, term_finish u (kind S M Γ u) (core S M Γ u) (core_term S M Γ u p.1))

long_term : (S : Symbols) (M : List Declared) (Γ : List Ty) (t : Tm) → IsTerm t → IsTerm (long S M Γ t)
long_term S M Γ t p = term_finish t (kind S M Γ t) (core S M Γ t) (core_term S M Γ t p)

up_times_typed : (cs : List Ty) (Γ Δ : List Ty) (ρ : ℕ → ℕ) → ((i : ℕ) (b : Ty) → slice_get Γ i ≡ Some b → slice_get Δ (ρ i) ≡ Some b)
    → (i : ℕ) (b : Ty) → slice_get (parameter_types cs Γ) i ≡ Some b → slice_get (parameter_types cs Δ) (up_times (length cs) ρ i) ≡ Some b
unfolding up_times
up_times_typed [] Γ Δ ρ h i b e = h i b e
up_times_typed (c ∷ cs) Γ Δ ρ h i b e = up_times_typed cs (c ∷ Γ) (c ∷ Δ) (up_renaming ρ) (up_renaming_typed Γ Δ ρ c h) i b e

fits_declared-shift : {S : Symbols} {N : List Declared} {Γ : List Ty} {d : Declared} (a : Ty) (g : ℕ → Body) (z : ℕ) → FitsDeclared S N Γ d (g z) → FitsDeclared S N (a ∷ Γ) d (shifted g z)
fits_declared-shift {S = S} {N = N} {Γ = Γ} {d = d} a g z h = record {
  counted = h.counted;
  typed = subst (λ n. Typed S N (parameter_types d.args (a ∷ Γ)) (rename (up_times n suc) (g z).tree) d.out) (sym h.counted)
      (typed-rename (parameter_types d.args (a ∷ Γ)) (up_times (length d.args) suc) (up_times_typed d.args Γ (a ∷ Γ) suc (λ i b e. e)) h.typed);
}

module _ (S : Symbols) (M : List Declared) where
  mutual
    unfolding core cores

    pub fits_core : (n : ℕ → ℕ) (Γ : List Ty) (t : Tm) → FitsArities n t → FitsArities n (core S M Γ t)
    fits_core n Γ (bound i) f = tt
    fits_core n Γ (free x a) f = tt
    fits_core n Γ (fun c) f = tt
    fits_core n Γ (meta z ts) f = (f.0 ∙ sym (count_cores Γ ts), fits_cores n Γ ts f.1)
    fits_core n Γ (lam a t) f = fits_finish n t (kind S M (a ∷ Γ) t) (core S M (a ∷ Γ) t) (fits_core n (a ∷ Γ) t f)
    fits_core n Γ (app t u) f = (fits_core n Γ t f.0, fits_finish n u (kind S M Γ u) (core S M Γ u) (fits_core n Γ u f.1))

    fits_cores : (n : ℕ → ℕ) (Γ : List Ty) (ts : Tms) → AllFitArities n ts → AllFitArities n (cores S M Γ ts)
    fits_cores n Γ none f = tt
    fits_cores n Γ (more t ts) f = (fits_argument n t (kind S M Γ t) (core S M Γ t) (fits_core n Γ t f.0), fits_cores n Γ ts f.1)

    count_cores : (Γ : List Ty) (ts : Tms) → count (cores S M Γ ts) ≡ count ts
    count_cores Γ none = refl
    count_cores Γ (more t ts) = ap (λ n. 1 + n) (count_cores Γ ts)

    fits_finish : (n : ℕ → ℕ) (t : Tm) (a : Ty) (c : Tm) → FitsArities n c → FitsArities n (finish t a c)
    fits_finish n (bound i) a c f = fits_expand n a c f
    fits_finish n (free x b) a c f = fits_expand n a c f
    fits_finish n (fun g) a c f = fits_expand n a c f
    fits_finish n (meta z ts) a c f = f
    fits_finish n (lam b t) a c f = f
    fits_finish n (app t u) a c f = fits_expand n a c f

    fits_argument : (n : ℕ → ℕ) (t : Tm) (a : Ty) (c : Tm) → FitsArities n c → FitsArities n (finish_argument t a c)
    fits_argument n (bound i) a c f = f
    fits_argument n (free x b) a c f = fits_expand n a c f
    fits_argument n (fun g) a c f = fits_expand n a c f
    fits_argument n (meta z ts) a c f = f
    fits_argument n (lam b t) a c f = f
    fits_argument n (app t u) a c f = fits_expand n a c f

  -- the bodies, extended
  unfoldable pub longed : List Ty → (ℕ → Body) → ℕ → Body
  longed Γ g z = record { arity = (g z).arity; tree = long S [] (params (g z).arity (args_at M z) Γ) (g z).tree }

  pub longed_shifted : (Γ : List Ty) (a : Ty) (g : ℕ → Body) (z : ℕ) → longed (a ∷ Γ) (shifted g) z ≡ shifted (longed Γ g) z
  unfolding longed
  longed_shifted Γ a g z =
      let put : Tm → Body = λ b. record { arity = (g z).arity; tree = b } in
      ap put (long-rename S [] (g z).tree (params (g z).arity (args_at M z) Γ) (params (g z).arity (args_at M z) (a ∷ Γ)) (up_times (g z).arity suc) (params_keep (g z).arity (args_at M z) Γ (a ∷ Γ) suc (λ i. refl)))

  pub bodies_shift : {Γ : List Ty} (t : Tm) (a : Ty) (g : ℕ → Body) → TypedBodies S M [] Γ g t → TypedBodies S M [] (a ∷ Γ) (shifted g) t
  bodies_shift t a g h z d o e = fits_declared-shift a g z (h z d o e)

  module _ (R : Tm → Tm → Type 0) (kept : IsRenamed R) where
    data AllMany : Tms → Tms → Type 0 where
      no_many : AllMany none none
      more_many : {t u : Tm} {ts us : Tms} → Many (StepOver R) t u → AllMany ts us → AllMany (more t ts) (more u us)

    data AllPut (Γ : List Ty) : List Ty → Tms → Tms → Type 0 where
      no_put : AllPut Γ [] none none
      more_put : {c : Ty} {cs : List Ty} {t u : Tm} {ts us : Tms} → Typed S [] Γ t c → Put S R kept Γ c t u → AllPut Γ cs ts us → AllPut Γ (c ∷ cs) (more t ts) (more u us)

    many_cons : (t u : Tm) (σ τ : ℕ → Tm) → Many (StepOver R) t u → ((i : ℕ) → Many (StepOver R) (σ i) (τ i)) → (i : ℕ) → Many (StepOver R) (cons t σ i) (cons u τ i)
    unfolding cons
    many_cons t u σ τ m h zero = m
    many_cons t u σ τ m h (suc i) = h i

    many_parameters : {ts us : Tms} → AllMany ts us → (σ τ : ℕ → Tm) → ((i : ℕ) → Many (StepOver R) (σ i) (τ i)) → (i : ℕ) → Many (StepOver R) (parameters ts σ i) (parameters us τ i)
    unfolding parameters
    many_parameters no_many σ τ h = h
    many_parameters (more_many {t = t} {u = u} m ms) σ τ h = many_parameters ms (cons t σ) (cons u τ) (many_cons t u σ τ m h)

    many_up : (σ τ : ℕ → Tm) → ((i : ℕ) → Many (StepOver R) (σ i) (τ i)) → (i : ℕ) → Many (StepOver R) (up σ i) (up τ i)
    unfolding up
    many_up σ τ h zero = stay
    many_up σ τ h (suc i) = many_map (rename suc) (λ t u s. over-rename kept suc s) (h i)

    -- steps of what is put in
    many_put : (t : Tm) → IsTerm t → (σ τ : ℕ → Tm) (φ : ℕ → Ty → Tm) → ((i : ℕ) → Many (StepOver R) (σ i) (τ i)) → Many (StepOver R) (act σ φ t) (act τ φ t)
    unfolding act
    many_put (bound i) p σ τ φ h = h i
    many_put (free x a) p σ τ φ h = stay
    many_put (fun f) p σ τ φ h = stay
    many_put (meta z ts) p σ τ φ h = absurd p
    many_put (lam a t) p σ τ φ h = many-body kept a (many_put t p (up σ) (up τ) (up_free φ) (many_up σ τ h))
    many_put (app t u) p σ τ φ h = many-app kept (many_put t p.0 σ τ φ h) (many_put u p.1 σ τ φ h)

    puts_cons : (Γ Δ : List Ty) (c : Ty) (t u : Tm) (σ τ : ℕ → Tm) → Typed S [] Γ t c → Put S R kept Γ c t u → Puts S R kept Δ Γ σ τ → Puts S R kept (c ∷ Δ) Γ (cons t σ) (cons u τ)
    unfolding cons
    puts_cons Γ Δ c t u σ τ p q h zero b e = (subst (Typed S [] Γ t) (some_one e) p, subst (λ b. Put S R kept Γ b t u) (some_one e) q)
    puts_cons Γ Δ c t u σ τ p q h (suc i) b e = h i b e

    puts_parameters : {Γ : List Ty} {cs : List Ty} {ts us : Tms} → AllPut Γ cs ts us → (Δ : List Ty) (σ τ : ℕ → Tm) → Puts S R kept Δ Γ σ τ → Puts S R kept (parameter_types cs Δ) Γ (parameters ts σ) (parameters us τ)
    unfolding parameters
    puts_parameters no_put Δ σ τ h = h
    puts_parameters {Γ = Γ} (more_put {c = c} {t = t} {u = u} p q r) Δ σ τ h = puts_parameters r (c ∷ Δ) (cons t σ) (cons u τ) (puts_cons Γ Δ c t u σ τ p q h)

    -- a meta-variable whose arguments come to extensions, or to variables
    meta_value : (Γ : List Ty) (z : ℕ) (d : Declared) (g : ℕ → Body) (ts vs us : Tms) → slice_get M z ≡ Some d → FitsDeclared S [] Γ d (g z) → AllMany vs us → AllPut Γ d.args ts us
        → Many (StepOver R) (act (parameters vs bound) free (longed Γ g z).tree) (long S [] Γ (act (parameters ts bound) free (g z).tree))
    unfolding longed
    meta_value Γ z d g ts vs us e fit ms ps =
        let scope : params (g z).arity (args_at M z) Γ ≡ parameter_types d.args Γ = ap₂ (λ n cs. params n cs Γ) fit.counted (args_is M z d e) ∙ params_is d.args Γ in
        many_both (many_equal (ap (λ Δ. act (parameters vs bound) free (long S [] Δ (g z).tree)) scope))
        (many_both (many_put (long S [] (parameter_types d.args Γ) (g z).tree) (long_term S [] (parameter_types d.args Γ) (g z).tree (typed_term (g z).tree fit.typed)) (parameters vs bound) (parameters us bound) free (many_parameters ms bound bound (λ i. stay)))
        (long_act S R kept Γ (parameters ts bound) (parameters us bound) (puts_parameters ps Γ bound bound (λ i b q. (typed_bound q, variable i refl refl))) fit.typed))

    -- the value of a core, to that of the whole side
    finish_value : {Γ : List Ty} {t : Tm} {a : Ty} (g : ℕ → Body) → FitsBodies g t → Typed S M Γ t a → Typed S [] Γ (value g t) a
        → Comes S R kept a (value (longed Γ g) (core S M Γ t)) (core S [] Γ (value g t)) (long S [] Γ (value g t))
        → ((z : ℕ) (ts : Tms) → t ≡ meta z ts → Many (StepOver R) (value (longed Γ g) (core S M Γ t)) (long S [] Γ (value g t)))
        → Many (StepOver R) (value (longed Γ g) (long S M Γ t)) (long S [] Γ (value g t))
    unfolding core value longed
    finish_value {Γ = Γ} g f (typed_bound {i = i} e) p c m = many_equal (value_expand (longed Γ g) (type_at Γ i) (bound i) tt)
    finish_value {Γ = Γ} g f (typed_free {x = x} {a = a} s) p c m = many_equal (value_expand (longed Γ g) a (free x a) tt)
    finish_value {Γ = Γ} g f (typed_fun {f = h} e) p c m = many_equal (value_expand (longed Γ g) (type_at S.funs h) (fun h) tt)
    finish_value g f (typed_meta {z = z} {ts = ts} e ps o) p c m = m z ts refl
    finish_value g f (typed_lam s q) p (as_core k) m = k
    finish_value g f (typed_lam s q) p (as_long k h) m = k
    finish_value {Γ = Γ} g f (typed_app {a = a} {b = b} {t = t} {u = u} q r) p c m =
        many_both (many_equal (value_expand (longed Γ g) (kind S M Γ (app t u)) (core S M Γ (app t u)) (fits_core (λ z. (g z).arity) Γ (app t u) f)))
        (app_long S R kept Γ (value g t) (value g u) b (kind S M Γ (app t u)) (value (longed Γ g) (core S M Γ (app t u))) (kind_is (typed_app q r)) p c)

    pub record Outcome (Γ : List Ty) (g : ℕ → Body) (t : Tm) (a : Ty) : Type 0 where
      pub comes : Comes S R kept a (value (longed Γ g) (core S M Γ t)) (core S [] Γ (value g t)) (long S [] Γ (value g t))
      pub metas : (z : ℕ) (ts : Tms) → t ≡ meta z ts → Many (StepOver R) (value (longed Γ g) (core S M Γ t)) (long S [] Γ (value g t))

    bound_meta : {A : Type 0} {i z : ℕ} {ts : Tms} → bound i ≡ meta z ts → A
    bound_meta e = absurd (cc)

    free_meta : {A : Type 0} {x z : ℕ} {b : Ty} {ts : Tms} → free x b ≡ meta z ts → A
    free_meta e = absurd (cc)

    fun_meta : {A : Type 0} {f z : ℕ} {ts : Tms} → fun f ≡ meta z ts → A
    fun_meta e = absurd (cc)

    lam_meta : {A : Type 0} {z : ℕ} {b : Ty} {t : Tm} {ts : Tms} → lam b t ≡ meta z ts → A
    lam_meta e = absurd (cc)

    app_meta : {A : Type 0} {z : ℕ} {t u : Tm} {ts : Tms} → app t u ≡ meta z ts → A
    app_meta e = absurd (cc)

    whole_value : {Γ : List Ty} {t : Tm} {a : Ty} (g : ℕ → Body) → FitsBodies g t → Typed S M Γ t a → TypedBodies S M [] Γ g t → Outcome Γ g t a → Many (StepOver R) (value (longed Γ g) (long S M Γ t)) (long S [] Γ (value g t))
    whole_value g f p h o = finish_value g f p (typed-value g p h) o.comes o.metas

    argument_value : (Γ : List Ty) (g : ℕ → Body) (t : Tm) (c : Ty) → Many (StepOver R) (value (longed Γ g) (long S M Γ t)) (long S [] Γ (value g t))
        → (u : Tm) × Many (StepOver R) (value (longed Γ g) (finish_argument t (kind S M Γ t) (core S M Γ t))) u × Put S R kept Γ c (value g t) u
    unfolding core value
    argument_value Γ g (bound i) c m = (bound i, stay, variable i refl refl)
    argument_value Γ g (free x b) c m = (long S [] Γ (value g (free x b)), m, extension refl (eta_all S R kept c))
    argument_value Γ g (fun f) c m = (long S [] Γ (value g (fun f)), m, extension refl (eta_all S R kept c))
    argument_value Γ g (meta z ts) c m = (long S [] Γ (value g (meta z ts)), m, extension refl (eta_all S R kept c))
    argument_value Γ g (lam b t) c m = (long S [] Γ (value g (lam b t)), m, extension refl (eta_all S R kept c))
    argument_value Γ g (app t u) c m = (long S [] Γ (value g (app t u)), m, extension refl (eta_all S R kept c))

    mutual
      unfolding core cores value values longed

      -- the value of a side's core
      pub value_core : {Γ : List Ty} {t : Tm} {a : Ty} (g : ℕ → Body) → Typed S M Γ t a → TypedBodies S M [] Γ g t → FitsBodies g t → Outcome Γ g t a
      value_core g (typed_bound e) h f = record { comes = as_core stay; metas = λ z ts e. bound_meta e }
      value_core g (typed_free s) h f = record { comes = as_core stay; metas = λ z ts e. free_meta e }
      value_core g (typed_fun e) h f = record { comes = as_core stay; metas = λ z ts e. fun_meta e }
      value_core {Γ = Γ} {a = a} g (typed_meta {z = z} {ts = ts} {d = d} e ps o) h f =
          let (us, ms, qs) = value_cores g ps (λ y b k q. h y b (inr k) q) f.1 in
          let m = meta_value Γ z d g (values g ts) (values (longed Γ g) (cores S M Γ ts)) us e (h z d (inl refl) e) ms qs in
          record { comes = as_long m (eta_all S R kept a); metas = λ y vs e. m }
      value_core {Γ = Γ} g (typed_lam {a = a} {b = b} {t = t} s p) h f =
          let shift : value (shifted (longed Γ g)) (long S M (a ∷ Γ) t) ≡ value (longed (a ∷ Γ) (shifted g)) (long S M (a ∷ Γ) t)
          = value_same (shifted (longed Γ g)) (longed (a ∷ Γ) (shifted g)) (long S M (a ∷ Γ) t) (λ z. sym (longed_shifted Γ a g z)) in
          let below = bodies_shift t a g h in
          record { comes = as_core (many-body kept a (many_both (many_equal shift) (whole_value (shifted g) f p below (value_core (shifted g) p below f)))); metas = λ z ts e. lam_meta e }
      value_core {Γ = Γ} g (typed_app {a = a} {b = b} {t = t} {u = u} p q) h f =
          let left : TypedBodies S M [] Γ g t = λ z d o e. h z d (inl o) e in
          let right : TypedBodies S M [] Γ g u = λ z d o e. h z d (inr o) e in
          record {
            comes = in_app S R kept Γ (value g t) (value g u) a b (value (longed Γ g) (core S M Γ t)) (value (longed Γ g) (long S M Γ u))
                (typed-value g p left) (typed-value g q right) (value_core g p left f.0).comes (whole_value g f.1 q right (value_core g q right f.1));
            metas = λ z ts e. app_meta e;
          }

      value_cores : {Γ : List Ty} {ts : Tms} {cs : List Ty} (g : ℕ → Body) → AllTyped S M Γ ts cs → ((z : ℕ) (d : Declared) → OccursIn z ts → slice_get M z ≡ Some d → FitsDeclared S [] Γ d (g z)) → AllFitBodies g ts
          → (us : Tms) × AllMany (values (longed Γ g) (cores S M Γ ts)) us × AllPut Γ cs (values g ts) us
      value_cores g typed_none h f = (none, no_many, no_put)
      value_cores {Γ = Γ} g (typed_more {t = t} {ts = ts} {a = a} p ps) h f =
          let left : TypedBodies S M [] Γ g t = λ z d o e. h z d (inl o) e in
          let (u, m, q) = argument_value Γ g t a (whole_value g f.0 p left (value_core g p left f.0)) in
          let (us, ms, qs) = value_cores g ps (λ z d o e. h z d (inr o) e) f.1 in
          (more u us, more_many m ms, more_put (typed-value g p left) q qs)

    -- the value of an extended side comes to the extension of its value
    pub value_long : {Γ : List Ty} {t : Tm} {a : Ty} (g : ℕ → Body) → Typed S M Γ t a → TypedBodies S M [] Γ g t → FitsBodies g t
        → Many (StepOver R) (value (longed Γ g) (long S M Γ t)) (long S [] Γ (value g t))
    value_long g p h f = whole_value g f p h (value_core g p h f)
