-- The value of an extended pattern is the extension of its value.
use Rattle.std.proofs.Common.{◌≡◌, ℕ, zero, suc, ◌+◌, List, [], ◌∷◌, refl, ap, ap₂, ◌∙◌, sym, Some, slice_get, inl, inr}
use Rattle.std.proofs.Math.Path.{fun_ext}
use Rattle.wh_types.specs.Ty.{Ty}
use Rattle.wh_terms.specs.Tree.{Tm, bound, free, fun, meta, lam, app, Tms, none, more}
use Rattle.wh_terms.specs.Substitution.{act, cons}
use Rattle.wh_terms.specs.Pattern.{AllBoundBelow, IsPatternUnder, IsPatternSpine}
use Rattle.wh_terms.specs.Typing.{Symbols, Declared, Typed, typed_bound, typed_meta, typed_lam, typed_app, AllTyped, typed_none, typed_more}
use Rattle.wh_terms.specs.Value.{Body, parameters}
use Rattle.wh_terms.specs.TypedBodies.{parameter_types, FitsDeclared, TypedBodies}
use Rattle.wh_terms.proofs.ActLaws.{rename-is-act}
use Rattle.wh_terms.proofs.ValueForm.{shifted, value, values, value_same, FitsBodies}
use Rattle.wh_terms.proofs.ValueTyping.{typed-value}
use Rattle.wh_terms.proofs.ValueSight.{bound_values}
use Rattle.wh_order_extended.specs.Kinds.{kind}
use Rattle.wh_order_extended.specs.Long.{expand, core, cores, long}
use Rattle.wh_order_extended.proofs.LongLaws.{kind_is, at_is, KeepsAll, long-rename}
use Rattle.wh_order_extended.proofs.Sides.{args_at, args_is, params, params_is, longed, longed_shifted, value_expand, fits_core, bodies_shift}

put_first : ℕ → (ℕ → ℕ) → ℕ → ℕ
put_first j r zero = j
put_first j r (suc i) = r i

-- the renaming that puts distinct variables for parameters
renaming_of : Tms → (ℕ → ℕ) → ℕ → ℕ
renaming_of none r = r
renaming_of (more (bound j) ts) r = renaming_of ts (put_first j r)
renaming_of (more t ts) r = renaming_of ts r

params_renamed : (k : ℕ) (ts : Tms) (r : ℕ → ℕ) → AllBoundBelow k ts → (i : ℕ) → parameters ts (λ i. bound (r i)) i ≡ bound (renaming_of ts r i)
unfolding parameters renaming_of put_first cons
params_renamed k none r b i = refl
params_renamed k (more (bound j) ts) r b i = ap (λ σ. parameters ts σ i) (fun_ext (λ n. one n)) ∙ params_renamed k ts (put_first j r) b.1 i
  where
    one : (n : ℕ) → cons (bound j) (λ i. bound (r i)) n ≡ bound (put_first j r n)
    one zero = refl
    one (suc n) = refl
params_renamed k (more (free x a) ts) r b i = absurd b
params_renamed k (more (fun f) ts) r b i = absurd b
params_renamed k (more (meta z us) ts) r b i = absurd b
params_renamed k (more (lam a t) ts) r b i = absurd b
params_renamed k (more (app t u) ts) r b i = absurd b

renaming_keeps : {S : Symbols} {M : List Declared} {Γ : List Ty} (k : ℕ) (ts : Tms) (cs : List Ty) → AllBoundBelow k ts → AllTyped S M Γ ts cs → (Δ : List Ty) (r : ℕ → ℕ) → KeepsAll Δ Γ r → KeepsAll (parameter_types cs Δ) Γ (renaming_of ts r)
unfolding renaming_of put_first
renaming_keeps k none [] b typed_none Δ r h = h
renaming_keeps k none (c ∷ cs) b p Δ r h = elim p [ ]
renaming_keeps k (more t ts) [] b p Δ r h = elim p [ ]
renaming_keeps {Γ = Γ} k (more (bound j) ts) (c ∷ cs) b (typed_more (typed_bound e) ps) Δ r h = renaming_keeps k ts cs b.1 ps (c ∷ Δ) (put_first j r) more_kept
  where
    more_kept : KeepsAll (c ∷ Δ) Γ (put_first j r)
    more_kept zero = at_is Γ j c e
    more_kept (suc i) = h i
renaming_keeps k (more (free x a) ts) (c ∷ cs) b p Δ r h = absurd b
renaming_keeps k (more (fun f) ts) (c ∷ cs) b p Δ r h = absurd b
renaming_keeps k (more (meta z us) ts) (c ∷ cs) b p Δ r h = absurd b
renaming_keeps k (more (lam a t) ts) (c ∷ cs) b p Δ r h = absurd b
renaming_keeps k (more (app t u) ts) (c ∷ cs) b p Δ r h = absurd b

module _ (S : Symbols) (M : List Declared) where
  cores_bound : (k : ℕ) (g : ℕ → Body) (Γ : List Ty) (ts : Tms) → AllBoundBelow k ts → values g (cores S M Γ ts) ≡ ts
  unfolding cores core values value
  cores_bound k g Γ none b = refl
  cores_bound k g Γ (more (bound j) ts) b = ap (more (bound j)) (cores_bound k g Γ ts b.1)
  cores_bound k g Γ (more (free x a) ts) b = absurd b
  cores_bound k g Γ (more (fun f) ts) b = absurd b
  cores_bound k g Γ (more (meta z us) ts) b = absurd b
  cores_bound k g Γ (more (lam a t) ts) b = absurd b
  cores_bound k g Γ (more (app t u) ts) b = absurd b

  meta_long : (k : ℕ) (Γ : List Ty) (z : ℕ) (d : Declared) (g : ℕ → Body) (ts : Tms) → AllBoundBelow k ts → slice_get M z ≡ Some d → FitsDeclared S [] Γ d (g z) → AllTyped S M Γ ts d.args
      → act (parameters (values (longed S M Γ g) (cores S M Γ ts)) bound) free (longed S M Γ g z).tree ≡ long S [] Γ (act (parameters (values g ts) bound) free (g z).tree)
  unfolding longed
  meta_long k Γ z d g ts b e fit ps =
      let scope : params (g z).arity (args_at M z) Γ ≡ parameter_types d.args Γ = ap₂ (λ n cs. params n cs Γ) fit.counted (args_is M z d e) ∙ params_is d.args Γ in
      let ren : (λ i. parameters ts bound i) ≡ (λ i. bound (renaming_of ts (λ i. i) i)) = fun_ext (λ i. params_renamed k ts (λ i. i) b i) in
      ap₂ (λ us Δ. act (parameters us bound) free (long S [] Δ (g z).tree)) (cores_bound k (longed S M Γ g) Γ ts b) scope
      ∙ ap (λ σ. act σ free (long S [] (parameter_types d.args Γ) (g z).tree)) ren
      ∙ sym (rename-is-act (renaming_of ts (λ i. i)) (long S [] (parameter_types d.args Γ) (g z).tree))
      ∙ sym (long-rename S [] (g z).tree (parameter_types d.args Γ) Γ (renaming_of ts (λ i. i)) (renaming_keeps k ts d.args b ps Γ (λ i. i) (λ i. refl)))
      ∙ ap (long S [] Γ) (rename-is-act (renaming_of ts (λ i. i)) (g z).tree ∙ ap (λ σ. act σ free (g z).tree) (sym ren) ∙ ap (λ us. act (parameters us bound) free (g z).tree) (sym (bound_values k g ts b)))

  spine_finish : (Γ : List Ty) (g : ℕ → Body) (t : Tm) (a : Ty) → Typed S M Γ t a → Typed S [] Γ (value g t) a → FitsBodies g t → value (longed S M Γ g) (core S M Γ t) ≡ core S [] Γ (value g t)
      → value (longed S M Γ g) (expand (kind S M Γ t) (core S M Γ t)) ≡ expand (kind S [] Γ (value g t)) (core S [] Γ (value g t))
  unfolding longed
  spine_finish Γ g t a p q f e = value_expand (longed S M Γ g) (kind S M Γ t) (core S M Γ t) (fits_core S M (λ z. (g z).arity) Γ t f) ∙ ap₂ expand (kind_is p ∙ sym (kind_is q)) e

  mutual
    unfolding core value values

    pub pattern_long : {Γ : List Ty} {a : Ty} (k : ℕ) (g : ℕ → Body) (p : Tm) → IsPatternUnder k p → Typed S M Γ p a → TypedBodies S M [] Γ g p → FitsBodies g p
        → value (longed S M Γ g) (long S M Γ p) ≡ long S [] Γ (value g p)
    pattern_long {Γ = Γ} {a = a} k g (bound i) p q h f = spine_finish Γ g (bound i) a q (typed-value g q h) f refl
    pattern_long {Γ = Γ} {a = a} k g (fun c) p q h f = spine_finish Γ g (fun c) a q (typed-value g q h) f refl
    pattern_long k g (free x b) p q h f = absurd p
    pattern_long {Γ = Γ} k g (meta z ts) p (typed_meta {d = d} e ps o) h f = meta_long k Γ z d g ts p.0 e (h z d (inl refl) e) ps
    pattern_long {Γ = Γ} k g (lam b t) p (typed_lam s q) h f =
        ap (lam b) (value_same (shifted (longed S M Γ g)) (longed S M (b ∷ Γ) (shifted g)) (long S M (b ∷ Γ) t) (λ z. sym (longed_shifted S M Γ b g z))
        ∙ pattern_long (k + 1) (shifted g) t p q (bodies_shift S M t b g h) f)
    pattern_long {Γ = Γ} {a = a} k g (app t u) p (typed_app q r) h f =
        spine_finish Γ g (app t u) a (typed_app q r) (typed-value g (typed_app q r) h) f
        (ap₂ app (pattern_core k g t p.0 q (λ z d o e. h z d (inl o) e) f.0) (pattern_long k g u p.1 r (λ z d o e. h z d (inr o) e) f.1))

    pattern_core : {Γ : List Ty} {a : Ty} (k : ℕ) (g : ℕ → Body) (p : Tm) → IsPatternSpine k p → Typed S M Γ p a → TypedBodies S M [] Γ g p → FitsBodies g p
        → value (longed S M Γ g) (core S M Γ p) ≡ core S [] Γ (value g p)
    pattern_core k g (bound i) p q h f = refl
    pattern_core k g (fun c) p q h f = refl
    pattern_core k g (free x b) p q h f = absurd p
    pattern_core k g (meta z ts) p q h f = absurd p
    pattern_core k g (lam b t) p q h f = absurd p
    pattern_core k g (app t u) p (typed_app q r) h f =
        ap₂ app (pattern_core k g t p.0 q (λ z d o e. h z d (inl o) e) f.0) (pattern_long k g u p.1 r (λ z d o e. h z d (inr o) e) f.1)
