-- Filters commute with renaming and substitution, and beta steps of full terms are steps of filtered ones.
use Rattle.std.proofs.Common.{◌≡◌, ℕ, zero, suc, ◌⊎◌, inl, inr, List, [], ◌∷◌, ◌++◌, map, refl, ap, ap₂, ◌∙◌, sym, Some, slice_get}
use Rattle.std.specs.Prelude.{get_or}
use Rattle.std.proofs.Math.Path.{fun_ext}
use Rattle.wh_step_laws.proofs.Spines.{spine-append}
use Rattle.std.proofs.lemmas.Option.{none-some}
use Rattle.wh_types.specs.Ty.{Ty, sort, ◌⇒◌}
use Rattle.wh_terms.specs.Tree.{Tm, bound, free, fun, meta, lam, app, Tms, none, more, spine}
use Rattle.wh_terms.specs.Substitution.{up_renaming, rename, renames, up, up_free, act}
use Rattle.wh_terms.specs.Typing.{Symbols, Typed, typed_bound, typed_free, typed_fun, typed_meta, typed_lam, typed_app}
use Rattle.wh_order_inference.specs.Filters.{Filter, keep, pick}
use Rattle.wh_order_extended.specs.Filtered.{collapse, chosen, filtered, sift, sifts}

rename-spine : (r : ℕ → ℕ) (h : Tm) (ts : List Tm) → rename r (spine h ts) ≡ spine (rename r h) (map (rename r) ts)
unfolding rename
rename-spine r h [] = refl
rename-spine r h (t ∷ ts) = rename-spine r (app h t) ts

act-spine : (σ : ℕ → Tm) (φ : ℕ → Ty → Tm) (h : Tm) (ts : List Tm) → act σ φ (spine h ts) ≡ spine (act σ φ h) (map (act σ φ) ts)
unfolding act
act-spine σ φ h [] = refl
act-spine σ φ h (t ∷ ts) = act-spine σ φ (app h t) ts

pub get_map : (h : Tm → Tm) (qs : List Tm) (i : ℕ) → h (fun 0) ≡ fun 0 → h (get_or qs i (fun 0)) ≡ get_or (map h qs) i (fun 0)
get_map h [] i e = e
get_map h (q ∷ qs) zero e = refl
get_map h (q ∷ qs) (suc i) e = get_map h qs i e

pub chosen_map : (h : Tm → Tm) (is : List ℕ) (qs : List Tm) → h (fun 0) ≡ fun 0 → map h (chosen is qs) ≡ chosen is (map h qs)
chosen_map h [] qs e = refl
chosen_map h (i ∷ is) qs e = ap₂ (λ t ts. t ∷ ts) (get_map h qs i e) (chosen_map h is qs e)

filtered-act : (σ : ℕ → Tm) (φ : ℕ → Ty → Tm) (F : Filter) (f : ℕ) (qs : List Tm) → act σ φ (filtered F f qs) ≡ filtered F f (map (act σ φ) qs)
unfolding act
filtered-act σ φ (keep p is) f qs = act-spine σ φ (fun f) (chosen is qs) ∙ ap (spine (fun f)) (chosen_map (act σ φ) is qs refl)
filtered-act σ φ (pick i) f qs = get_map (act σ φ) qs i refl

filtered-rename : (r : ℕ → ℕ) (F : Filter) (f : ℕ) (qs : List Tm) → rename r (filtered F f qs) ≡ filtered F f (map (rename r) qs)
unfolding rename
filtered-rename r (keep p is) f qs = rename-spine r (fun f) (chosen is qs) ∙ ap (spine (fun f)) (chosen_map (rename r) is qs refl)
filtered-rename r (pick i) f qs = get_map (rename r) qs i refl

mutual
  unfolding sift sifts rename renames

  pub sift-rename : (Φ : ℕ → Filter) (r : ℕ → ℕ) (t : Tm) (qs : List Tm) → rename r (sift Φ t qs) ≡ sift Φ (rename r t) (map (rename r) qs)
  sift-rename Φ r (bound i) qs = rename-spine r (bound i) qs
  sift-rename Φ r (free x a) qs = rename-spine r (free x (collapse a)) qs
  sift-rename Φ r (fun f) qs = filtered-rename r (Φ f) f qs
  sift-rename Φ r (meta z ts) qs = rename-spine r (meta z (sifts Φ ts)) qs ∙ ap (λ us. spine (meta z us) (map (rename r) qs)) (sifts-renames Φ r ts)
  sift-rename Φ r (lam a t) qs = rename-spine r (lam (collapse a) (sift Φ t [])) qs ∙ ap (λ u. spine (lam (collapse a) u) (map (rename r) qs)) (sift-rename Φ (up_renaming r) t [])
  sift-rename Φ r (app t u) qs = sift-rename Φ r t (sift Φ u [] ∷ qs) ∙ ap (λ v. sift Φ (rename r t) (v ∷ map (rename r) qs)) (sift-rename Φ r u [])

  sifts-renames : (Φ : ℕ → Filter) (r : ℕ → ℕ) (ts : Tms) → renames r (sifts Φ ts) ≡ sifts Φ (renames r ts)
  sifts-renames Φ r none = refl
  sifts-renames Φ r (more t ts) = ap₂ more (sift-rename Φ r t []) (sifts-renames Φ r ts)

-- the head is no symbol
abbrev pub IsFlexible : Tm → Type 0
IsFlexible (fun f) = ⊥
IsFlexible (app t u) = IsFlexible t
IsFlexible _ = Unit {0}

abbrev pub IsArrow : Ty → Type 0
IsArrow (sort s) = ⊥
IsArrow (a ⇒ b) = Unit {0}

pub sift-flexible : (Φ : ℕ → Filter) (t : Tm) (qs rs : List Tm) → IsFlexible t → spine (sift Φ t qs) rs ≡ sift Φ t (qs ++ rs)
unfolding sift
sift-flexible Φ (bound i) qs rs p = sym (spine-append (bound i) qs rs)
sift-flexible Φ (free x a) qs rs p = sym (spine-append (free x (collapse a)) qs rs)
sift-flexible Φ (fun f) qs rs p = absurd p
sift-flexible Φ (meta z ts) qs rs p = sym (spine-append (meta z (sifts Φ ts)) qs rs)
sift-flexible Φ (lam a t) qs rs p = sym (spine-append (lam (collapse a) (sift Φ t [])) qs rs)
sift-flexible Φ (app t u) qs rs p = sift-flexible Φ t (sift Φ u [] ∷ qs) rs p

-- what stands behind a tree of a type: nothing, where the type is a sort
abbrev pub Behind : Ty → List Tm → Type 0
Behind a qs = (qs ≡ []) ⊎ IsArrow a

pub flexible_shift : (t : Tm) → IsFlexible t → IsFlexible (rename suc t)
unfolding rename
flexible_shift (bound i) p = tt
flexible_shift (free x a) p = tt
flexible_shift (fun f) p = p
flexible_shift (meta z ts) p = tt
flexible_shift (lam a t) p = tt
flexible_shift (app t u) p = flexible_shift t p

module _ (S : Symbols) (Φ : ℕ → Filter) where
  abbrev pub Flexibles : List Ty → (ℕ → Tm) → Type 0
  Flexibles Γ σ = (i : ℕ) (b : Ty) → slice_get Γ i ≡ Some b → IsArrow b → IsFlexible (σ i)

  flexibles_up : (Γ : List Ty) (σ : ℕ → Tm) (a : Ty) → Flexibles Γ σ → Flexibles (a ∷ Γ) (up σ)
  unfolding up
  flexibles_up Γ σ a h zero b e p = tt
  flexibles_up Γ σ a h (suc i) b e p = flexible_shift (σ i) (h i b e p)

  pub put_sifted : (u : Tm) (qs : List Tm) (b : Ty) → Behind b qs → (IsArrow b → IsFlexible u) → spine (sift Φ u []) qs ≡ sift Φ u qs
  put_sifted u qs b (inl e) h = ap (spine (sift Φ u [])) e ∙ ap (sift Φ u) (sym e)
  put_sifted u qs b (inr p) h = sift-flexible Φ u [] qs (h p)

  map_behind : (h : Tm → Tm) (a : Ty) (qs : List Tm) → Behind a qs → Behind a (map h qs)
  map_behind h a qs (inl e) = inl (ap (map h) e)
  map_behind h a qs (inr p) = inr p

  up_sifted : (σ : ℕ → Tm) (i : ℕ) → up (λ i. sift Φ (σ i) []) i ≡ sift Φ (up σ i) []
  unfolding up sift
  up_sifted σ zero = refl
  up_sifted σ (suc i) = sift-rename Φ suc (σ i) []

  -- filters commute with substitution
  pub sift-act : {Γ : List Ty} {t : Tm} {a : Ty} (σ : ℕ → Tm) → Flexibles Γ σ → Typed S [] Γ t a → (qs : List Tm) → Behind a qs
      → act (λ i. sift Φ (σ i) []) free (sift Φ t qs) ≡ sift Φ (act σ free t) (map (act (λ i. sift Φ (σ i) []) free) qs)
  unfolding sift act up_free rename
  sift-act σ h (typed_bound {i = i} {a = a} e) qs w =
      let τ : ℕ → Tm = λ i. sift Φ (σ i) [] in
      act-spine τ free (bound i) qs ∙ put_sifted (σ i) (map (act τ free) qs) a (map_behind (act τ free) a qs w) (h i a e)
  sift-act σ h (typed_free {x = x} {a = a} p) qs w = act-spine (λ i. sift Φ (σ i) []) free (free x (collapse a)) qs
  sift-act σ h (typed_fun {f = f} e) qs w = filtered-act (λ i. sift Φ (σ i) []) free (Φ f) f qs
  sift-act σ h (typed_meta {d = d} e us o) qs w = absurd (none-some d e)
  sift-act {Γ = Γ} σ h (typed_lam {a = a} {t = t} p q) qs w =
      let τ : ℕ → Tm = λ i. sift Φ (σ i) [] in
      act-spine τ free (lam (collapse a) (sift Φ t [])) qs
      ∙ ap (λ u. spine (lam (collapse a) u) (map (act τ free) qs)) (ap (λ ρ. act ρ free (sift Φ t [])) (fun_ext (up_sifted σ)) ∙ sift-act (up σ) (flexibles_up Γ σ a h) q [] (inl refl))
  sift-act σ h (typed_app {a = a} {b = b} {t = t} {u = u} p q) qs w =
      let τ : ℕ → Tm = λ i. sift Φ (σ i) [] in
      sift-act σ h p (sift Φ u [] ∷ qs) (inr tt) ∙ ap (λ v. sift Φ (act σ free t) (v ∷ map (act τ free) qs)) (sift-act σ h q [] (inl refl))
