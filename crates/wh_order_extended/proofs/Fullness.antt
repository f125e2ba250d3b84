-- Extended trees are full, and stay so under substitution and as values.
use Rattle.std.proofs.Common.{◌≡◌, ℕ, zero, suc, ◌⊎◌, inl, inr, List, [], ◌∷◌, length, refl, ap, sym, subst, Some, slice_get}
use Rattle.std.proofs.lemmas.Option.{none-some}
use Rattle.wh_types.specs.Ty.{Ty, sort, ◌⇒◌, arguments}
use Rattle.wh_terms.specs.Tree.{Tm, bound, free, fun, meta, lam, app, Tms, none, more}
use Rattle.wh_terms.specs.Substitution.{up_renaming, rename, renames, up, up_free, act, cons}
use Rattle.wh_terms.specs.Sight.{Occurs, OccursIn}
use Rattle.wh_terms.specs.Typing.{Symbols, Declared, Typed, typed_bound, typed_free, typed_fun, typed_meta, typed_lam, typed_app, AllTyped, typed_none, typed_more}
use Rattle.wh_terms.specs.Value.{Body, parameters}
use Rattle.wh_terms.specs.TypedBodies.{parameter_types, FitsDeclared, TypedBodies}
use Rattle.wh_terms.proofs.TypingLaws.{some_one, typed-shift, typed-act, fits-free}
use Rattle.wh_terms.proofs.ValueForm.{shifted, value, values, up_times}
use Rattle.wh_terms.proofs.ValueTyping.{typed-value}
use Rattle.wh_order_extended.specs.Kinds.{type_at, kind}
use Rattle.wh_order_extended.specs.Long.{expand, finish, finish_argument, core, cores, long}
use Rattle.wh_order_extended.specs.Filtered.{FullWith, AllFull, symbol_arity, Full}
use Rattle.wh_order_extended.proofs.LongLaws.{at_is, kind_is}
use Rattle.wh_order_extended.proofs.Sifting.{IsArrow}
use Rattle.wh_order_extended.proofs.Sides.{bodies_shift}
use Rattle.wh_order_extended.proofs.SiftSteps.{full_flexible, full_any}

mutual
  unfolding rename renames

  pub full_rename : (n : ℕ → ℕ) (k : ℕ) (r : ℕ → ℕ) (t : Tm) → FullWith n k t → FullWith n k (rename r t)
  full_rename n k r (bound i) f = tt
  full_rename n k r (free x a) f = tt
  full_rename n k r (fun g) f = f
  full_rename n k r (meta z ts) f = full_renames n r ts f
  full_rename n k r (lam a t) f = full_rename n 0 (up_renaming r) t f
  full_rename n k r (app t u) f = (full_rename n (suc k) r t f.0, full_rename n 0 r u f.1)

  full_renames : (n : ℕ → ℕ) (r : ℕ → ℕ) (ts : Tms) → AllFull n ts → AllFull n (renames r ts)
  full_renames n r none f = tt
  full_renames n r (more t ts) f = (full_rename n 0 r t f.0, full_renames n r ts f.1)

full_expand : (n : ℕ → ℕ) (a : Ty) (c : Tm) → FullWith n (length (arguments a)) c → FullWith n 0 (expand a c)
unfolding expand
full_expand n (sort s) c f = f
full_expand n (a ⇒ b) c f = full_expand n b (app (rename suc c) (expand a (bound 0))) (full_rename n (length (arguments (a ⇒ b))) suc c f, full_expand n a (bound 0) tt)

-- what stands behind a tree of the type
abbrev pub Pending : Ty → ℕ → Type 0
Pending a n = (n ≡ 0) ⊎ IsArrow a

module _ (S : Symbols) where
  full_kind : (n : ℕ → ℕ) (k a : Ty) (c : Tm) → k ≡ a → FullWith n (length (arguments a)) c → FullWith n 0 (expand k c)
  full_kind n k a c e f = subst (λ k. FullWith n 0 (expand k c)) (sym e) (full_expand n a c f)

  -- whole trees, from cores
  full_whole : {M : List Declared} {Γ : List Ty} (t : Tm) (a : Ty) → Typed S M Γ t a → Full S (length (arguments a)) (core S M Γ t) → Full S 0 (finish t (kind S M Γ t) (core S M Γ t))
  unfolding core
  full_whole {M = M} {Γ = Γ} (bound i) a p f = full_kind (symbol_arity S) (type_at Γ i) a (bound i) (kind_is p) f
  full_whole {M = M} {Γ = Γ} (free x b) a p f = full_kind (symbol_arity S) b a (free x b) (kind_is p) f
  full_whole {M = M} {Γ = Γ} (fun g) a p f = full_kind (symbol_arity S) (type_at S.funs g) a (fun g) (kind_is p) f
  full_whole (meta z ts) a p f = f
  full_whole (lam b t) a p f = f
  full_whole {M = M} {Γ = Γ} (app t u) a p f = full_kind (symbol_arity S) (kind S M Γ (app t u)) a (core S M Γ (app t u)) (kind_is p) f

  full_argument : {M : List Declared} {Γ : List Ty} (t : Tm) (a : Ty) → Typed S M Γ t a → Full S (length (arguments a)) (core S M Γ t) → Full S 0 (finish_argument t (kind S M Γ t) (core S M Γ t))
  unfolding core
  full_argument (bound i) a p f = tt
  full_argument (free x b) a p f = full_whole (free x b) a p f
  full_argument (fun g) a p f = full_whole (fun g) a p f
  full_argument (meta z ts) a p f = f
  full_argument (lam b t) a p f = f
  full_argument (app t u) a p f = full_whole (app t u) a p f

  mutual
    unfolding core cores

    -- a core lacks as many arguments as its type takes
    full_core : {M : List Declared} {Γ : List Ty} {t : Tm} {a : Ty} → Typed S M Γ t a → Full S (length (arguments a)) (core S M Γ t)
    full_core (typed_bound e) = tt
    full_core (typed_free p) = tt
    full_core (typed_fun {f = f} {a = a} e) = ap (λ b. length (arguments b)) (sym (at_is S.funs f a e))
    full_core (typed_meta e ts o) = full_cores ts
    full_core (typed_lam {b = b} {t = t} p q) = full_whole t b q (full_core q)
    full_core (typed_app {a = a} {u = u} p q) = (full_core p, full_whole u a q (full_core q))

    full_cores : {M : List Declared} {Γ : List Ty} {ts : Tms} {cs : List Ty} → AllTyped S M Γ ts cs → AllFull (symbol_arity S) (cores S M Γ ts)
    full_cores typed_none = tt
    full_cores (typed_more {t = t} {a = a} p ps) = (full_argument t a p (full_core p), full_cores ps)

  -- extended trees are full
  pub full_long : {M : List Declared} {Γ : List Ty} {t : Tm} {a : Ty} → Typed S M Γ t a → Full S 0 (long S M Γ t)
  full_long {t = t} {a = a} p = full_whole t a p (full_core p)

  abbrev pub FullPuts : List Ty → List Ty → (ℕ → Tm) → Type 0
  FullPuts Γ Δ σ = (i : ℕ) (b : Ty) → slice_get Γ i ≡ Some b → Typed S [] Δ (σ i) b × Full S 0 (σ i)

  full_puts_up : (Γ Δ : List Ty) (σ : ℕ → Tm) (a : Ty) → FullPuts Γ Δ σ → FullPuts (a ∷ Γ) (a ∷ Δ) (up σ)
  unfolding up
  full_puts_up Γ Δ σ a h zero b e = (typed_bound e, tt)
  full_puts_up Γ Δ σ a h (suc i) b e = (typed-shift a (h i b e).0, full_rename (symbol_arity S) 0 suc (σ i) (h i b e).1)

  pub full_behind : {Γ : List Ty} (t : Tm) (a : Ty) (n : ℕ) → Typed S [] Γ t a → Full S 0 t → Pending a n → Full S n t
  full_behind t a n p f (inl e) = subst (λ n. Full S n t) (sym e) f
  full_behind t a n p f (inr w) = full_any S t 0 n (full_flexible S a p f w) f

  -- so they are after a substitution of full trees
  pub full_act : {Γ : List Ty} {t : Tm} {a : Ty} (Δ : List Ty) (σ : ℕ → Tm) → FullPuts Γ Δ σ → Typed S [] Γ t a → (n : ℕ) → Pending a n → Full S n t → Full S n (act σ free t)
  unfolding act up_free rename
  full_act Δ σ h (typed_bound {i = i} {a = a} e) n w f = full_behind (σ i) a n (h i a e).0 (h i a e).1 w
  full_act Δ σ h (typed_free p) n w f = tt
  full_act Δ σ h (typed_fun e) n w f = f
  full_act Δ σ h (typed_meta {d = d} e us o) n w f = absurd (none-some d e)
  full_act {Γ = Γ} Δ σ h (typed_lam {a = a} p q) n w f = full_act (a ∷ Δ) (up σ) (full_puts_up Γ Δ σ a h) q 0 (inl refl) f
  full_act Δ σ h (typed_app p q) n w f = (full_act Δ σ h p (suc n) (inr tt) f.0, full_act Δ σ h q 0 (inl refl) f.1)

  -- typed and full bodies for the meta-variables of a tree
  abbrev pub FullBodies : (ℕ → Body) → Tm → Type 0
  FullBodies g t = (z : ℕ) → Occurs z t → Full S 0 (g z).tree

  pub full_shifted : (t : Tm) (g : ℕ → Body) → FullBodies g t → FullBodies (shifted g) t
  full_shifted t g h z o = full_rename (symbol_arity S) 0 (up_times (g z).arity suc) (g z).tree (h z o)

  pub puts_params : {Γ : List Ty} {ts : Tms} {cs : List Ty} → AllTyped S [] Γ ts cs → AllFull (symbol_arity S) ts → (Δ : List Ty) (σ : ℕ → Tm) → FullPuts Δ Γ σ → FullPuts (parameter_types cs Δ) Γ (parameters ts σ)
  unfolding parameters cons
  puts_params typed_none f Δ σ h = h
  puts_params {Γ = Γ} (typed_more {t = t} {a = c} p ps) f Δ σ h = puts_params ps f.1 (c ∷ Δ) (cons t σ) (cons_puts p)
    where
      cons_puts : Typed S [] Γ t c → FullPuts (c ∷ Δ) Γ (cons t σ)
      cons_puts q zero b e = (subst (Typed S [] Γ t) (some_one e) q, f.0)
      cons_puts q (suc i) b e = h i b e

  mutual
    unfolding value values

    -- and values of full trees under full bodies
    pub full_value : {M : List Declared} {Γ : List Ty} {t : Tm} {a : Ty} (g : ℕ → Body) → FullBodies g t → TypedBodies S M [] Γ g t → Typed S M Γ t a → (n : ℕ) → Pending a n → Full S n t → Full S n (value g t)
    full_value g h b (typed_bound e) n w f = tt
    full_value g h b (typed_free p) n w f = tt
    full_value g h b (typed_fun e) n w f = f
    full_value {Γ = Γ} g h b (typed_meta {z = z} {ts = ts} {d = d} e ps o) n w f =
        let fit = b z d (inl refl) e in
        let qs = typed_values g (λ y c k q. b y c (inr k) q) ps in
        let puts = puts_params qs (full_values g (λ y k. h y (inr k)) (λ y c k q. b y c (inr k) q) ps f) Γ bound (λ i c q. (typed_bound q, tt)) in
        full_behind (act (parameters (values g ts) bound) free (g z).tree) d.out n
        (typed-act Γ (parameters (values g ts) bound) free (λ i c q. (puts i c q).0) (fits-free Γ) fit.typed)
        (full_act Γ (parameters (values g ts) bound) puts fit.typed 0 (inl refl) (h z (inl refl))) (subst (λ a. Pending a n) o w)
    full_value {Γ = Γ} g h b (typed_lam {a = a} {t = t} p q) n w f = full_value (shifted g) (full_shifted t g h) (bodies_shift S _ t a g b) q 0 (inl refl) f
    full_value g h b (typed_app p q) n w f = (full_value g (λ z o. h z (inl o)) (λ z d o e. b z d (inl o) e) p (suc n) (inr tt) f.0, full_value g (λ z o. h z (inr o)) (λ z d o e. b z d (inr o) e) q 0 (inl refl) f.1)

    pub full_values : {M : List Declared} {Γ : List Ty} {ts : Tms} {cs : List Ty} (g : ℕ → Body) → ((z : ℕ) → OccursIn z ts → Full S 0 (g z).tree) → ((z : ℕ) (d : Declared) → OccursIn z ts → slice_get M z ≡ Some d → FitsDeclared S [] Γ d (g z)) → AllTyped S M Γ ts cs
        → AllFull (symbol_arity S) ts → AllFull (symbol_arity S) (values g ts)
    full_values g h b typed_none f = tt
    full_values g h b (typed_more p ps) f = (full_value g (λ z o. h z (inl o)) (λ z d o e. b z d (inl o) e) p 0 (inl refl) f.0, full_values g (λ z o. h z (inr o)) (λ z d o e. b z d (inr o) e) ps f.1)

    pub typed_values : {M : List Declared} {Γ : List Ty} {ts : Tms} {cs : List Ty} (g : ℕ → Body) → ((z : ℕ) (d : Declared) → OccursIn z ts → slice_get M z ≡ Some d → FitsDeclared S [] Γ d (g z)) → AllTyped S M Γ ts cs → AllTyped S [] Γ (values g ts) cs
    typed_values g b typed_none = typed_none
    typed_values g b (typed_more p ps) = typed_more (typed-value g p (λ z d o e. b z d (inl o) e)) (typed_values g (λ z d o e. b z d (inr o) e) ps)
