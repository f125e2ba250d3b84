-- The value of a meta-term's value: each meta-variable means its body, as a function of the parameters.
use Rattle.std.proofs.Common.{◌≡◌, ℕ, zero, suc, List, [], ◌∷◌, length, refl, ap, ap₂, ◌∙◌, sym, subst, Some, slice_get, inl, inr}
use native.Mathlib.Decide.{ℕ_discrete}
use mathlib.Core.Path.{fun_ext}
use Rattle.wh_types.specs.Ty.{Ty, Ty-discrete}
use Rattle.wh_terms.specs.Tree.{Tm, bound, Tms}
use Rattle.wh_terms.specs.Substitution.{up_renaming, rename, cons}
use Rattle.wh_terms.specs.Sight.{Occurs, OccursIn}
use Rattle.wh_terms.specs.Typing.{Symbols, Declared, Typed, typed_bound, typed_free, typed_fun, typed_meta, typed_lam, typed_app, AllTyped, typed_none, typed_more}
use Rattle.wh_terms.specs.Value.{Body, parameters}
use Rattle.wh_terms.specs.TypedBodies.{parameter_types, FitsDeclared}
use Rattle.wh_terms.proofs.TypingLaws.{some_one, up_renaming_typed, typed-rename}
use Rattle.wh_terms.proofs.ValueForm.{up_times, shifted, value, values}
use Rattle.wh_terms.proofs.ValueTyping.{typed-value, all_typed-values}
use Rattle.wh_poly_meaning.specs.Functionals.{Sem, Mono, Le, nothing}
use Rattle.wh_poly_meaning.specs.Valuations.{Valuation, at_type, MonoValuation, LeValuation}
use Rattle.wh_poly_meaning.specs.TermValues.{declared_at, type_in, Meanings, MonoMeanings, push, value_in, fed}
use Rattle.wh_polycheck.specs.Sides.{arrows}
use Rattle.wh_poly_meaning.proofs.Valuations.{at_itself}
use Rattle.wh_poly_meaning.proofs.Order.{le_same, mono_nothing, mono_at}
use Rattle.wh_poly_meaning.proofs.TermValues.{declared_is, has_same, type_is, push_here, push_rename, mono_push, le_push, KeepsAll, keeps_up, FitsAll, value_app, value_agree, value_rename, value_act, value_mono, value_le}

up_times_typed : (cs : List Ty) (Γ Δ : List Ty) (ρ : ℕ → ℕ) → ((i : ℕ) (b : Ty) → slice_get Γ i ≡ Some b → slice_get Δ (ρ i) ≡ Some b)
    → (i : ℕ) (b : Ty) → slice_get (parameter_types cs Γ) i ≡ Some b
    → slice_get (parameter_types cs Δ) (up_times (length cs) ρ i) ≡ Some b
unfolding up_times
up_times_typed [] Γ Δ ρ h i b e = h i b e
up_times_typed (c ∷ cs) Γ Δ ρ h i b e = up_times_typed cs (c ∷ Γ) (c ∷ Δ) (up_renaming ρ) (up_renaming_typed Γ Δ ρ c h) i b e

-- a typed body, moved below one binder more
fits_declared-shift : {S : Symbols} {N : List Declared} {Γ : List Ty} {d : Declared} (a : Ty) (g : ℕ → Body) (z : ℕ)
    → FitsDeclared S N Γ d (g z) → FitsDeclared S N (a ∷ Γ) d (shifted g z)
fits_declared-shift {S = S} {N = N} {Γ = Γ} {d = d} a g z h = record {
  counted = h.counted;
  typed = subst (λ n. Typed S N (parameter_types d.args (a ∷ Γ)) (rename (up_times n suc) (g z).tree) d.out) (sym h.counted)
      (typed-rename (parameter_types d.args (a ∷ Γ)) (up_times (length d.args) suc) (up_times_typed d.args Γ (a ∷ Γ) suc (λ i b e. e)) h.typed);
}

-- the meanings with other values for the meta-variables
abbrev pub with_metas : Meanings → Valuation → Meanings
with_metas m ζ = record { of_symbols = m.of_symbols; of_metas = ζ; of_free = m.of_free }

module _ (S : Symbols) (m : Meanings) where
  -- a body as a function of its parameters
  abbrev pub body_value : (cs : List Ty) → List Ty → Tm → Valuation → (A : Ty) → Sem (arrows cs A)
  body_value [] Γ b ρ A = value_in S [] m Γ b ρ A
  body_value (c ∷ cs) Γ b ρ A = λ v. body_value cs (c ∷ Γ) b (push c v ρ) A

  pub body_rename : (cs : List Ty) (Γ Δ : List Ty) (r : ℕ → ℕ) → KeepsAll Γ Δ r → (b : Tm) (ρ : Valuation) (A : Ty)
      → body_value cs Δ (rename (up_times (length cs) r) b) ρ A ≡ body_value cs Γ b (λ i D. ρ (r i) D) A
  unfolding up_times
  body_rename [] Γ Δ r h b ρ A = value_rename S [] m b Γ Δ r h ρ A
  body_rename (c ∷ cs) Γ Δ r h b ρ A = fun_ext (λ v. body_rename cs (c ∷ Γ) (c ∷ Δ) (up_renaming r) (keeps_up Γ Δ r c h) b (push c v ρ) A
      ∙ ap (λ ρ. body_value cs (c ∷ Γ) b ρ A) (push_rename c v ρ r))

  mutual
    pub body_mono : MonoMeanings m → (cs : List Ty) (Γ : List Ty) (b : Tm) (ρ : Valuation) → MonoValuation ρ → (A : Ty)
        → Mono (arrows cs A) (body_value cs Γ b ρ A)
    body_mono k [] Γ b ρ h A = value_mono S [] m k b Γ ρ h A
    body_mono k (c ∷ cs) Γ b ρ h A = (
      λ v mv. body_mono k cs (c ∷ Γ) b (push c v ρ) (mono_push c v ρ mv h) A,
      λ v w mv mw l. body_le k cs (c ∷ Γ) b (push c v ρ) (push c w ρ) (mono_push c v ρ mv h) (mono_push c w ρ mw h) (le_push c v w ρ ρ l (λ i D. le_same D (ρ i D))) A,
    )

    body_le : MonoMeanings m → (cs : List Ty) (Γ : List Ty) (b : Tm) (ρ χ : Valuation) → MonoValuation ρ → MonoValuation χ
        → LeValuation ρ χ → (A : Ty)
        → Le (arrows cs A) (body_value cs Γ b ρ A) (body_value cs Γ b χ A)
    body_le k [] Γ b ρ χ h j l A = value_le S [] m k b Γ ρ χ h j l A
    body_le k (c ∷ cs) Γ b ρ χ h j l A = λ v mv. body_le k cs (c ∷ Γ) b (push c v ρ) (push c v χ) (mono_push c v ρ mv h) (mono_push c v χ mv j) (le_push c v v ρ χ (le_same c v) l) A

  -- what the meta-variables of M mean under a meta-substitution
  abbrev pub metas_value : List Declared → (ℕ → Body) → List Ty → Valuation → Valuation
  metas_value M g Γ ρ z C =
      at_type (arrows (declared_at M z).args (declared_at M z).out) C (Ty-discrete ℕ_discrete (arrows (declared_at M z).args (declared_at M z).out) C)
      (body_value (declared_at M z).args Γ (g z).tree ρ (declared_at M z).out) (nothing C)

  pub metas_value_mono : MonoMeanings m → (M : List Declared) (g : ℕ → Body) (Γ : List Ty) (ρ : Valuation) → MonoValuation ρ
      → MonoValuation (metas_value M g Γ ρ)
  metas_value_mono k M g Γ ρ h z C =
      let D = arrows (declared_at M z).args (declared_at M z).out in
      mono_at D C (Ty-discrete ℕ_discrete D C) (body_value (declared_at M z).args Γ (g z).tree ρ (declared_at M z).out) (nothing C)
      (body_mono k (declared_at M z).args Γ (g z).tree ρ h (declared_at M z).out) (mono_nothing C)

  -- the meta-variable means its body
  abbrev pub IsBody : Valuation → (ℕ → Body) → List Ty → Valuation → ℕ → Declared → Type 0
  IsBody ζ g Γ ρ z d = ζ z (arrows d.args d.out) ≡ body_value d.args Γ (g z).tree ρ d.out

  pub metas_value_is : (M : List Declared) (g : ℕ → Body) (Γ : List Ty) (ρ : Valuation) (z : ℕ) (d : Declared) → slice_get M z ≡ Some d
      → IsBody (metas_value M g Γ ρ) g Γ ρ z d
  metas_value_is M g Γ ρ z d e = subst (λ d. metas_value M g Γ ρ z (arrows d.args d.out) ≡ body_value d.args Γ (g z).tree ρ d.out) (declared_is M z d e)
      (let D = arrows (declared_at M z).args (declared_at M z).out in
      at_itself D (Ty-discrete ℕ_discrete D D) (body_value (declared_at M z).args Γ (g z).tree ρ (declared_at M z).out) (nothing D))

  shifted_body : (ζ : Valuation) (g : ℕ → Body) (Γ : List Ty) (ρ : Valuation) (z : ℕ) (d : Declared) (c B : Ty) (v : Sem B)
      → (g z).arity ≡ length d.args → IsBody ζ g Γ ρ z d → IsBody ζ (shifted g) (c ∷ Γ) (push B v ρ) z d
  shifted_body ζ g Γ ρ z d c B v n h = h ∙ sym (
      ap (λ k. body_value d.args (c ∷ Γ) (rename (up_times k suc) (g z).tree) (push B v ρ) d.out) n
      ∙ body_rename d.args Γ (c ∷ Γ) suc (λ i. refl) (g z).tree (push B v ρ) d.out)

  cons_fits : (Γ Θ : List Ty) (σ : ℕ → Tm) (t : Tm) (c : Ty) → FitsAll S [] Θ Γ σ → type_in S [] Γ t ≡ c
      → FitsAll S [] (c ∷ Θ) Γ (cons t σ)
  unfolding cons
  cons_fits Γ Θ σ t c h e zero = e
  cons_fits Γ Θ σ t c h e (suc i) = h i

  fits_all_parameters : {Γ : List Ty} {ts : Tms} {cs : List Ty} (Θ : List Ty) (σ : ℕ → Tm) → FitsAll S [] Θ Γ σ → AllTyped S [] Γ ts cs
      → FitsAll S [] (parameter_types cs Θ) Γ (parameters ts σ)
  unfolding parameters
  fits_all_parameters Θ σ h typed_none = h
  fits_all_parameters {Γ = Γ} Θ σ h (typed_more {t = t} {a = c} p ps) = fits_all_parameters (c ∷ Θ) (cons t σ) (cons_fits Γ Θ σ t c h (type_is Γ (has_same Γ) p)) ps

  module _ (M : List Declared) (ζ : Valuation) where
    -- typed bodies that are what the meta-variables mean
    abbrev pub MeansBodies : List Ty → (ℕ → Body) → Valuation → Tm → Type 0
    MeansBodies Γ g ρ t = (z : ℕ) (d : Declared) → Occurs z t → slice_get M z ≡ Some d → FitsDeclared S [] Γ d (g z) × IsBody ζ g Γ ρ z d

    abbrev pub AllMeanBodies : List Ty → (ℕ → Body) → Valuation → Tms → Type 0
    AllMeanBodies Γ g ρ ts = (z : ℕ) (d : Declared) → OccursIn z ts → slice_get M z ≡ Some d → FitsDeclared S [] Γ d (g z) × IsBody ζ g Γ ρ z d

    cons_agrees : (Γ Θ : List Ty) (σ : ℕ → Tm) (ρ χ : Valuation) (c : Ty) (u : Tm) (w : Sem c) → value_in S [] m Γ u ρ c ≡ w
        → ((i : ℕ) (b : Ty) → slice_get Θ i ≡ Some b → value_in S [] m Γ (σ i) ρ b ≡ χ i b)
        → (i : ℕ) (b : Ty) → slice_get (c ∷ Θ) i ≡ Some b → value_in S [] m Γ (cons u σ i) ρ b ≡ push c w χ i b
    unfolding cons
    cons_agrees Γ Θ σ ρ χ c u w k h zero b e = sym (push_here c b (some_one e) (λ c. value_in S [] m Γ u ρ c) χ) ∙ ap (λ w. push c w χ zero b) k
    cons_agrees Γ Θ σ ρ χ c u w k h (suc i) b e = h i b e

    mutual
      unfolding value values parameters

      pub value_value : {Γ : List Ty} {t : Tm} {a : Ty} (g : ℕ → Body) (ρ : Valuation) → Typed S M Γ t a → MeansBodies Γ g ρ t
          → value_in S [] m Γ (value g t) ρ a ≡ value_in S M (with_metas m ζ) Γ t ρ a
      value_value g ρ (typed_bound e) h = refl
      value_value g ρ (typed_free p) h = refl
      value_value g ρ (typed_fun e) h = refl
      value_value {Γ = Γ} g ρ (typed_meta {z = z} {ts = ts} {d = d} {a = a} e ps o) h =
          let (k, i) = h z d (inl refl) e in
          let typed = all_typed-values g ps (λ y c o q. (h y c (inr o) q).0) in
          value_act S [] m (g z).tree (parameter_types d.args Γ) Γ (parameters (values g ts) bound) (fits_all_parameters Γ bound (λ i. refl) typed) ρ a
          ∙ fed_body g ρ Γ bound ρ (g z).tree a (λ i b e. refl) (subst (λ c. Typed S [] (parameter_types d.args Γ) (g z).tree c) (sym o) k.typed) ps (λ y c o q. h y c (inr o) q)
          ∙ ap (λ f. fed S M (with_metas m ζ) Γ ρ d.args a f ts) (subst (λ a. body_value d.args Γ (g z).tree ρ a ≡ ζ z (arrows d.args a)) (sym o) (sym i))
          ∙ ap (λ d. fed S M (with_metas m ζ) Γ ρ d.args a (ζ z (arrows d.args a)) ts) (sym (declared_is M z d e))
      value_value {Γ = Γ} g ρ (typed_lam {a = c} {t = t} p q) h = fun_ext (λ v.
          value_value (shifted g) (push c v ρ) q (λ z d o e. let (k, i) = h z d o e in (fits_declared-shift c g z k, shifted_body ζ g Γ ρ z d c c v k.counted i)))
      value_value {Γ = Γ} {a = b} g ρ (typed_app {a = a} {t = t} {u = u} p q) h =
          value_app S [] m Γ (value g t) (value g u) ρ b a (type_is Γ (has_same Γ) (typed-value g q (λ z d o e. (h z d (inr o) e).0)))
          ∙ ap₂ (λ f x. f x) (value_value g ρ p (λ z d o e. h z d (inl o) e)) (value_value g ρ q (λ z d o e. h z d (inr o) e))
          ∙ sym (value_app S M (with_metas m ζ) Γ t u ρ b a (type_is Γ (has_same Γ) q))

      fed_body : {Γ : List Ty} {ts : Tms} {cs : List Ty} (g : ℕ → Body) (ρ : Valuation) (Θ : List Ty) (σ : ℕ → Tm) (χ : Valuation)
          (b : Tm) (A : Ty)
          → ((i : ℕ) (c : Ty) → slice_get Θ i ≡ Some c → value_in S [] m Γ (σ i) ρ c ≡ χ i c) → Typed S [] (parameter_types cs Θ) b A
          → AllTyped S M Γ ts cs → AllMeanBodies Γ g ρ ts
          → value_in S [] m (parameter_types cs Θ) b (λ i D. value_in S [] m Γ (parameters (values g ts) σ i) ρ D) A ≡ fed S M (with_metas m ζ) Γ ρ cs A (body_value cs Θ b χ A) ts
      fed_body {Γ = Γ} g ρ Θ σ χ b A k q typed_none h = value_agree S [] m Θ χ (λ i D. value_in S [] m Γ (σ i) ρ D) (λ i c e. (e, k i c e)) q
      fed_body {Γ = Γ} g ρ Θ σ χ b A k q (typed_more {t = t} {ts = ts} {a = c} p ps) h =
          let w = value_in S M (with_metas m ζ) Γ t ρ c in
          fed_body g ρ (c ∷ Θ) (cons (value g t) σ) (push c w χ) b A
          (cons_agrees Γ Θ σ ρ χ c (value g t) w (value_value g ρ p (λ z d o e. h z d (inl o) e)) k) q ps (λ z d o e. h z d (inr o) e)
