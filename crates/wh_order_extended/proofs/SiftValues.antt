-- Filters commute with values, and steps of full typed terms are steps of filtered ones.
use Rattle.std.proofs.Common.{◌≡◌, ℕ, zero, suc, inl, inr, List, [], ◌∷◌, length, map, refl, ap, ap₂, ◌∙◌, sym, subst, Some, slice_get}
use Rattle.std.proofs.Math.Path.{fun_ext}
use Rattle.wh_types.specs.Ty.{Ty, sort, ◌⇒◌}
use Rattle.wh_terms.specs.Tree.{Tm, bound, free, fun, meta, lam, app, Tms, none, more, spine}
use Rattle.wh_terms.specs.Substitution.{act, cons, opened}
use Rattle.wh_terms.specs.Sight.{OccursIn}
use Rattle.wh_terms.specs.Typing.{Symbols, Declared, Typed, typed_bound, typed_free, typed_fun, typed_meta, typed_lam, typed_app, AllTyped, typed_none, typed_more}
use Rattle.wh_terms.specs.Value.{Body, parameters}
use Rattle.wh_terms.specs.TypedBodies.{parameter_types, FitsDeclared, TypedBodies}
use Rattle.wh_terms.specs.StepOver.{StepOver, over_root, over_beta, over_function, over_argument, over_body, KeepsTypes}
use Rattle.wh_terms.proofs.TypingLaws.{some_one, typed-act, fits-free, typed-opened}
use Rattle.wh_terms.proofs.ValueForm.{shifted, value, values, value_same, up_times}
use Rattle.wh_order_inference.specs.Filters.{Filter, keep, pick}
use Rattle.wh_order_extended.specs.Filtered.{symbol_arity, Full, collapse, filtered, chosen, AllFull, sift, sifts}
use Rattle.wh_order_extended.specs.Many.{Many}
use Rattle.wh_order_extended.proofs.Expand.{IsRenamed, many-body}
use Rattle.wh_order_extended.proofs.Sides.{bodies_shift}
use Rattle.wh_order_extended.proofs.Sifting.{IsArrow, Behind, Flexibles, put_sifted, sift-act, sift-rename, get_map, chosen_map}
use Rattle.wh_order_extended.proofs.SiftSteps.{full_flexible, more_lists, same_lists, many_spines, many_sift, beta_sift}
use Rattle.wh_order_extended.proofs.Fullness.{FullPuts, FullBodies, Pending, full_values, full_act, full_behind, full_shifted, puts_params, typed_values}

pub value-spine : (g : ℕ → Body) (h : Tm) (ts : List Tm) → value g (spine h ts) ≡ spine (value g h) (map (value g) ts)
unfolding value
value-spine g h [] = refl
value-spine g h (t ∷ ts) = value-spine g (app h t) ts

pub filtered-value : (g : ℕ → Body) (F : Filter) (f : ℕ) (qs : List Tm) → value g (filtered F f qs) ≡ filtered F f (map (value g) qs)
unfolding value
filtered-value g (keep p is) f qs = value-spine g (fun f) (chosen is qs) ∙ ap (spine (fun f)) (chosen_map (value g) is qs refl)
filtered-value g (pick i) f qs = get_map (value g) qs i refl

module _ (Φ : ℕ → Filter) where
  unfoldable pub sifted : (ℕ → Body) → ℕ → Body
  sifted g z = record { arity = (g z).arity; tree = sift Φ (g z).tree [] }

  sifted_shifted : (g : ℕ → Body) (z : ℕ) → sifted (shifted g) z ≡ shifted (sifted g) z
  unfolding sifted
  sifted_shifted g z =
      let put : Tm → Body = λ b. record { arity = (g z).arity; tree = b } in
      ap put (sym (sift-rename Φ (up_times (g z).arity suc) (g z).tree []))

  params_sifted : (ts : Tms) (σ : ℕ → Tm) (i : ℕ) → sift Φ (parameters ts σ i) [] ≡ parameters (sifts Φ ts) (λ i. sift Φ (σ i) []) i
  unfolding parameters sifts sift cons
  params_sifted none σ i = refl
  params_sifted (more t ts) σ i = params_sifted ts (cons t σ) i ∙ ap (λ τ. parameters (sifts Φ ts) τ i) (fun_ext (λ j. one j))
    where
      one : (j : ℕ) → sift Φ (cons t σ j) [] ≡ cons (sift Φ t []) (λ i. sift Φ (σ i) []) j
      one zero = refl
      one (suc j) = refl

  bound_sifted : (i : ℕ) → sift Φ (bound i) [] ≡ bound i
  unfolding sift
  bound_sifted i = refl

  params_bound : (ts : Tms) (i : ℕ) → sift Φ (parameters ts bound i) [] ≡ parameters (sifts Φ ts) bound i
  params_bound ts i = params_sifted ts bound i ∙ ap (λ τ. parameters (sifts Φ ts) τ i) (fun_ext bound_sifted)

  map_behind : (h : Tm → Tm) (a : Ty) (qs : List Tm) → Behind a qs → Behind a (map h qs)
  map_behind h a qs (inl e) = inl (ap (map h) e)
  map_behind h a qs (inr p) = inr p

module _ (S : Symbols) (Φ : ℕ → Filter) where
  mutual
    unfolding value values sift sifts sifted

    pub sift-value : {M : List Declared} {Γ : List Ty} {t : Tm} {a : Ty} (g : ℕ → Body) → FullBodies S g t → TypedBodies S M [] Γ g t → Typed S M Γ t a → (n : ℕ) → Full S n t → (qs : List Tm) → Behind a qs
        → value (sifted Φ g) (sift Φ t qs) ≡ sift Φ (value g t) (map (value (sifted Φ g)) qs)
    sift-value g h b (typed_bound {i = i} e) n f qs w = value-spine (sifted Φ g) (bound i) qs
    sift-value g h b (typed_free {x = x} {a = a} p) n f qs w = value-spine (sifted Φ g) (free x (collapse a)) qs
    sift-value g h b (typed_fun {f = c} e) n f qs w = filtered-value (sifted Φ g) (Φ c) c qs
    sift-value {Γ = Γ} g h b (typed_meta {z = z} {ts = ts} {d = d} {a = a} e ps o) n f qs w =
        let fit = b z d (inl refl) e in
        let puts = puts_params S (typed_values S g (λ y c k q. b y c (inr k) q) ps) (full_values S g (λ y k. h y (inr k)) (λ y c k q. b y c (inr k) q) ps f) Γ bound (λ i c q. (typed_bound q, tt)) in
        let σ = parameters (values g ts) bound in
        let flexible : Flexibles S Φ (parameter_types d.args Γ) σ = λ i c q w. full_flexible S c (puts i c q).0 (puts i c q).1 w in
        value-spine (sifted Φ g) (meta z (sifts Φ ts)) qs
        ∙ ap (λ v. spine v (map (value (sifted Φ g)) qs)) (
        ap (λ us. act (parameters us bound) free (sifted Φ g z).tree) (sifts-values g (λ y k. h y (inr k)) (λ y c k q. b y c (inr k) q) ps f)
        ∙ ap (λ τ. act τ free (sift Φ (g z).tree [])) (fun_ext (λ i. sym (params_bound Φ (values g ts) i)))
        ∙ sift-act S Φ σ flexible fit.typed [] (inl refl))
        ∙ put_sifted S Φ (act σ free (g z).tree) (map (value (sifted Φ g)) qs) a (map_behind Φ (value (sifted Φ g)) a qs w)
        (full_flexible S a (subst (Typed S [] Γ (act σ free (g z).tree)) (sym o) (typed-act Γ σ free (λ i c q. (puts i c q).0) (fits-free Γ) fit.typed)) (full_act S Γ σ puts fit.typed 0 (inl refl) (h z (inl refl))))
    sift-value {Γ = Γ} g h b (typed_lam {a = a} {t = t} p q) n f qs w =
        value-spine (sifted Φ g) (lam (collapse a) (sift Φ t [])) qs
        ∙ ap (λ u. spine (lam (collapse a) u) (map (value (sifted Φ g)) qs)) (value_same (shifted (sifted Φ g)) (sifted Φ (shifted g)) (sift Φ t []) (λ z. sym (sifted_shifted Φ g z))
        ∙ sift-value (shifted g) (full_shifted S t g h) (bodies_shift S _ t a g b) q 0 f [] (inl refl))
    sift-value g h b (typed_app {t = t} {u = u} p q) n f qs w =
        sift-value g (λ z o. h z (inl o)) (λ z d o e. b z d (inl o) e) p (suc n) f.0 (sift Φ u [] ∷ qs) (inr tt)
        ∙ ap (λ v. sift Φ (value g t) (v ∷ map (value (sifted Φ g)) qs)) (sift-value g (λ z o. h z (inr o)) (λ z d o e. b z d (inr o) e) q 0 f.1 [] (inl refl))

    sifts-values : {M : List Declared} {Γ : List Ty} {ts : Tms} {cs : List Ty} (g : ℕ → Body) → ((z : ℕ) → OccursIn z ts → Full S 0 (g z).tree) → ((z : ℕ) (d : Declared) → OccursIn z ts → slice_get M z ≡ Some d → FitsDeclared S [] Γ d (g z)) → AllTyped S M Γ ts cs
        → AllFull (symbol_arity S) ts → values (sifted Φ g) (sifts Φ ts) ≡ sifts Φ (values g ts)
    sifts-values g h b typed_none f = refl
    sifts-values g h b (typed_more p ps) f = ap₂ more (sift-value g (λ z o. h z (inl o)) (λ z d o e. b z d (inl o) e) p 0 f.0 [] (inl refl)) (sifts-values g (λ z o. h z (inr o)) (λ z d o e. b z d (inr o) e) ps f.1)

  module _ (Q P : Tm → Tm → Type 0) (P_kept : IsRenamed P) (Q_typed : KeepsTypes S Q)
      (Q_full : (Γ : List Ty) (t u : Tm) (a : Ty) → Q t u → Typed S [] Γ t a → Full S 0 u) (Q_sort : (Γ : List Ty) (t u : Tm) (a : Ty) → Q t u → Typed S [] Γ t a → (s : ℕ) × (a ≡ sort s))
      (root : (Γ : List Ty) (t u : Tm) (s : ℕ) → Q t u → Typed S [] Γ t (sort s) → Full S 0 t → Many (StepOver P) (sift Φ t []) (sift Φ u [])) where
    no_more : {a : Ty} {n : ℕ} → (s : ℕ) × (a ≡ sort s) → Pending a n → n ≡ 0
    no_more h (inl e) = e
    no_more (s, e) (inr w) = absurd (subst IsArrow e w)

    -- an abstraction with an argument, typed
    record Redex (Γ : List Ty) (a b : Ty) (t u : Tm) : Type 0 where
      body : Typed S [] (b ∷ Γ) t a
      argument : Typed S [] Γ u b

    redex : {Γ : List Ty} {a b : Ty} {t u : Tm} → Typed S [] Γ (app (lam b t) u) a → Redex Γ a b t u
    redex {Γ = Γ} {a = a} {b = b} {t = t} {u = u} (typed_app p q) = on p q
      where
        on : {c : Ty} → Typed S [] Γ (lam b t) (c ⇒ a) → Typed S [] Γ u c → Redex Γ a b t u
        on (typed_lam h r) q = record { body = r; argument = q }

    opened_puts : (Γ : List Ty) (b : Ty) (u : Tm) → Typed S [] Γ u b → Full S 0 u → FullPuts S (b ∷ Γ) Γ (cons u bound)
    unfolding cons
    opened_puts Γ b u q f zero d e = (subst (Typed S [] Γ u) (some_one e) q, f)
    opened_puts Γ b u q f (suc i) d e = (typed_bound e, tt)

    beta_full : (Γ : List Ty) (a b : Ty) (t u : Tm) → Typed S [] Γ (app (lam b t) u) a → (n k : ℕ) → Pending a k → Full S n (app (lam b t) u) → Full S k (opened u t)
    unfolding opened
    beta_full Γ a b t u p n k w f =
        let r = redex p in
        full_behind S (opened u t) a k (typed-opened r.argument r.body) (full_act S Γ (cons u bound) (opened_puts Γ b u r.argument f.1) r.body 0 (inl refl) f.0) w

    -- steps keep trees full
    pub step_full : {t u : Tm} → StepOver Q t u → (Γ : List Ty) (a : Ty) → Typed S [] Γ t a → (n : ℕ) → Pending a n → Full S n t → Full S n u
    step_full (over_root {t = t} {u = u} q) Γ a p n w f = subst (λ n. Full S n u) (sym (no_more (Q_sort Γ t u a q p) w)) (Q_full Γ t u a q p)
    step_full (over_beta {a = b} {t = t} {u = u} e) Γ a p n w f = subst (Full S n) (sym e) (beta_full Γ a b t u p n n w f)
    step_full (over_function s) Γ a (typed_app {a = b} p q) n w f = (step_full s Γ (b ⇒ a) p (suc n) (inr tt) f.0, f.1)
    step_full (over_argument s) Γ a (typed_app {a = b} p q) n w f = (f.0, step_full s Γ b q 0 (inl refl) f.1)
    step_full (over_body s) Γ a (typed_lam {a = b} {b = c} h p) n w f = step_full s (b ∷ Γ) c p 0 (inl refl) f

    beta_step : (Γ : List Ty) (a b : Ty) (t u : Tm) → Typed S [] Γ (app (lam b t) u) a → (n : ℕ) (qs : List Tm) → Behind a qs → Full S n (app (lam b t) u)
        → Many (StepOver P) (sift Φ (app (lam b t) u) qs) (sift Φ (opened u t) qs)
    beta_step Γ a b t u p n qs w f =
        let r = redex p in
        beta_sift S Φ P P_kept Γ b a t u qs r.body r.argument f.1 (beta_full Γ a b t u p n 0 (inl refl) f) w

    -- steps of full typed trees are steps of filtered ones
    pub step_sift : {t u : Tm} → StepOver Q t u → (Γ : List Ty) (a : Ty) → Typed S [] Γ t a → (qs : List Tm) → Behind a qs → Full S (length qs) t → Many (StepOver P) (sift Φ t qs) (sift Φ u qs)
    unfolding sift
    step_sift (over_root {t = t} {u = u} q) Γ a p qs w f = root_at (Q_sort Γ t u a q p) qs w f
      where
        root_at : (s : ℕ) × (a ≡ sort s) → (qs : List Tm) → Behind a qs → Full S (length qs) t → Many (StepOver P) (sift Φ t qs) (sift Φ u qs)
        root_at (s, e) [] w f = root Γ t u s q (subst (Typed S [] Γ t) e p) f
        root_at (s, e) (v ∷ qs) (inl d) f = absurd (cc)
        root_at (s, e) (v ∷ qs) (inr w) f = absurd (subst IsArrow e w)
    step_sift (over_beta {a = b} {t = t} {u = u} e) Γ a p qs w f =
        subst (λ v. Many (StepOver P) (sift Φ (app (lam b t) u) qs) (sift Φ v qs)) (sym e) (beta_step Γ a b t u p (length qs) qs w f)
    step_sift (over_function {u = v} s) Γ a (typed_app {a = b} p q) qs w f = step_sift s Γ (b ⇒ a) p (sift Φ v [] ∷ qs) (inr tt) f.0
    step_sift (over_argument {t = t} s) Γ a (typed_app {a = b} p q) qs w f = many_sift Φ P P_kept t (more_lists (step_sift s Γ b q [] (inl refl) f.1) (same_lists Φ P P_kept qs))
    step_sift (over_body {a = b} {t = t} {t' = t'} s) Γ a (typed_lam {b = c} h p) qs w f =
        many_spines Φ P P_kept (lam (collapse b) (sift Φ t [])) (lam (collapse b) (sift Φ t' [])) (many-body P_kept (collapse b) (step_sift s (b ∷ Γ) c p [] (inl refl) f)) (same_lists Φ P P_kept qs)
