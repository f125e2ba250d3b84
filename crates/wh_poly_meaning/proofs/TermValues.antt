-- Laws of values of trees: types, agreement, renaming, substitution, beta, monotony.
use Rattle.std.proofs.Common.{◌≡◌, ℕ, zero, suc, List, [], ◌∷◌, refl, ap, ap₂, ◌∙◌, sym, subst, Some, slice_get}
use Rattle.std.proofs.lemmas.Option.{none-some, same_Some}
use native.Mathlib.Decide.{ℕ_discrete}
use mathlib.Core.Path.{fun_ext, path_j}
use Rattle.wh_types.specs.Ty.{Ty, Ty-discrete, sort, ◌⇒◌}
use Rattle.wh_terms.specs.Tree.{Tm, bound, free, fun, meta, lam, app, Tms, none, more}
use Rattle.wh_terms.specs.Substitution.{up_renaming, rename, renames, up, up_free, act, acts, cons, opened}
use Rattle.wh_terms.specs.Typing.{Symbols, Declared, Typed, typed_bound, typed_free, typed_fun, typed_meta, typed_lam, typed_app, AllTyped, typed_none, typed_more}
use Rattle.wh_terms.proofs.ActLaws.{up_free-free}
use Rattle.wh_terms.proofs.TypingLaws.{some_one}
use Rattle.wh_hopoly.specs.Evaluation.{type_at, codomain}
use Rattle.wh_poly_meaning.specs.Functionals.{Sem, Mono, Le, nothing}
use Rattle.wh_poly_meaning.specs.Valuations.{Valuation, MonoValuation, LeValuation}
use Rattle.wh_poly_meaning.specs.TermValues.{declared_at, type_in, Meanings, MonoMeanings, push, value_in, fed}
use Rattle.wh_polycheck.specs.Sides.{arrows}
use Rattle.wh_poly_meaning.proofs.Valuations.{at_itself}
use Rattle.wh_poly_meaning.proofs.Order.{le_nat, le_same, le_then, mono_nothing, mono_at, le_at}

pub at_is : (Γ : List Ty) (i : ℕ) (a : Ty) → slice_get Γ i ≡ Some a → type_at Γ i ≡ a
at_is [] i a e = absurd (none-some a e)
at_is (b ∷ Γ) zero a e = same_Some b a e
at_is (b ∷ Γ) (suc i) a e = at_is Γ i a e

pub declared_is : (M : List Declared) (z : ℕ) (d : Declared) → slice_get M z ≡ Some d → declared_at M z ≡ d
declared_is [] z d e = absurd (none-some d e)
declared_is (c ∷ M) zero d e = same_Some c d e
declared_is (c ∷ M) (suc z) d e = declared_is M z d e

-- a scope that has the types of another one, below one binder more
abbrev pub Has : List Ty → List Ty → Type 0
Has Γ Δ = (i : ℕ) (b : Ty) → slice_get Γ i ≡ Some b → slice_get Δ i ≡ Some b

pub has_same : (Γ : List Ty) → Has Γ Γ
has_same Γ i b e = e

has_up : (Γ Δ : List Ty) (a : Ty) → Has Γ Δ → Has (a ∷ Γ) (a ∷ Δ)
has_up Γ Δ a h zero b e = e
has_up Γ Δ a h (suc i) b e = h i b e

-- the type of a typed tree
pub type_is : {S : Symbols} {M : List Declared} {Γ : List Ty} {t : Tm} {a : Ty} (Δ : List Ty) → Has Γ Δ → Typed S M Γ t a
    → type_in S M Δ t ≡ a
type_is Δ h (typed_bound {i = i} {a = a} e) = at_is Δ i a (h i a e)
type_is Δ h (typed_free p) = refl
type_is Δ h (typed_fun {S = S} {f = f} {a = a} e) = at_is S.funs f a e
type_is Δ h (typed_meta {M = M} {z = z} {d = d} e ts o) = ap (λ d. d.out) (declared_is M z d e) ∙ sym o
type_is Δ h (typed_lam {Γ = Γ} {a = a} p t) = ap (λ b. a ⇒ b) (type_is (a ∷ Δ) (has_up Γ Δ a h) t)
type_is Δ h (typed_app t u) = ap codomain (type_is Δ h t)

-- a value that was pushed at its own type
pub push_here : (a b : Ty) → a ≡ b → (w : (c : Ty) → Sem c) (ρ : Valuation) → push a (w a) ρ zero b ≡ w b
push_here a b e w ρ = path_j (λ b e. push a (w a) ρ zero b ≡ w b) (at_itself a (Ty-discrete ℕ_discrete a a) (w a) (nothing a)) e

push_renamed : (B : Ty) (v : Sem B) (ρ : Valuation) (r : ℕ → ℕ) (i : ℕ) (D : Ty)
    → push B v ρ (up_renaming r i) D ≡ push B v (λ i D. ρ (r i) D) i D
unfolding up_renaming
push_renamed B v ρ r zero D = refl
push_renamed B v ρ r (suc i) D = refl

pub push_rename : (B : Ty) (v : Sem B) (ρ : Valuation) (r : ℕ → ℕ) → (λ i D. push B v ρ (up_renaming r i) D) ≡ push B v (λ i D. ρ (r i) D)
push_rename B v ρ r = fun_ext (λ i. fun_ext (λ D. push_renamed B v ρ r i D))

pub mono_push : (B : Ty) (v : Sem B) (ρ : Valuation) → Mono B v → MonoValuation ρ → MonoValuation (push B v ρ)
mono_push B v ρ m h zero A = mono_at B A (Ty-discrete ℕ_discrete B A) v (nothing A) m (mono_nothing A)
mono_push B v ρ m h (suc i) A = h i A

pub le_push : (B : Ty) (v w : Sem B) (ρ ρ' : Valuation) → Le B v w → LeValuation ρ ρ' → LeValuation (push B v ρ) (push B w ρ')
le_push B v w ρ ρ' m h zero A = le_at B A (Ty-discrete ℕ_discrete B A) v w (nothing A) (nothing A) m (le_same A (nothing A))
le_push B v w ρ ρ' m h (suc i) A = h i A

-- a renaming that keeps the types of all numbers
abbrev pub KeepsAll : List Ty → List Ty → (ℕ → ℕ) → Type 0
KeepsAll Γ Δ r = (i : ℕ) → type_at Δ (r i) ≡ type_at Γ i

pub keeps_up : (Γ Δ : List Ty) (r : ℕ → ℕ) (b : Ty) → KeepsAll Γ Δ r → KeepsAll (b ∷ Γ) (b ∷ Δ) (up_renaming r)
unfolding up_renaming
keeps_up Γ Δ r b h zero = refl
keeps_up Γ Δ r b h (suc i) = h i

module _ (S : Symbols) (M : List Declared) where
  pub type_rename : (t : Tm) (Γ Δ : List Ty) (r : ℕ → ℕ) → KeepsAll Γ Δ r → type_in S M Δ (rename r t) ≡ type_in S M Γ t
  unfolding rename
  type_rename (bound i) Γ Δ r h = h i
  type_rename (free x a) Γ Δ r h = refl
  type_rename (fun f) Γ Δ r h = refl
  type_rename (meta z ts) Γ Δ r h = refl
  type_rename (lam b t) Γ Δ r h = ap (λ c. b ⇒ c) (type_rename t (b ∷ Γ) (b ∷ Δ) (up_renaming r) (keeps_up Γ Δ r b h))
  type_rename (app t u) Γ Δ r h = ap codomain (type_rename t Γ Δ r h)

  -- trees that have the types of all numbers
  abbrev pub FitsAll : List Ty → List Ty → (ℕ → Tm) → Type 0
  FitsAll Γ Δ σ = (i : ℕ) → type_in S M Δ (σ i) ≡ type_at Γ i

  fits_all_up : (Γ Δ : List Ty) (σ : ℕ → Tm) (b : Ty) → FitsAll Γ Δ σ → FitsAll (b ∷ Γ) (b ∷ Δ) (up σ)
  unfolding up
  fits_all_up Γ Δ σ b h zero = refl
  fits_all_up Γ Δ σ b h (suc i) = type_rename (σ i) Δ (b ∷ Δ) suc (λ j. refl) ∙ h i

  free_up : (σ : ℕ → Tm) (t : Tm) → act (up σ) (up_free free) t ≡ act (up σ) free t
  free_up σ t = ap (λ φ. act (up σ) φ t) (fun_ext (λ x. fun_ext (λ a. up_free-free x a)))

  pub type_act : (t : Tm) (Γ Δ : List Ty) (σ : ℕ → Tm) → FitsAll Γ Δ σ → type_in S M Δ (act σ free t) ≡ type_in S M Γ t
  unfolding act
  type_act (bound i) Γ Δ σ h = h i
  type_act (free x a) Γ Δ σ h = refl
  type_act (fun f) Γ Δ σ h = refl
  type_act (meta z ts) Γ Δ σ h = refl
  type_act (lam b t) Γ Δ σ h = ap (λ c. b ⇒ c) (ap (type_in S M (b ∷ Δ)) (free_up σ t) ∙ type_act t (b ∷ Γ) (b ∷ Δ) (up σ) (fits_all_up Γ Δ σ b h))
  type_act (app t u) Γ Δ σ h = ap codomain (type_act t Γ Δ σ h)

  module _ (m : Meanings) where
    -- application at the type of the argument
    pub value_app : (Γ : List Ty) (t u : Tm) (ρ : Valuation) (A B : Ty) → type_in S M Γ u ≡ B
        → value_in S M m Γ (app t u) ρ A ≡ value_in S M m Γ t ρ (B ⇒ A) (value_in S M m Γ u ρ B)
    value_app Γ t u ρ A B e = ap (λ B. value_in S M m Γ t ρ (B ⇒ A) (value_in S M m Γ u ρ B)) e

    -- the other scope has the types and the values of all loose variables
    abbrev pub Agrees : List Ty → List Ty → Valuation → Valuation → Type 0
    Agrees Γ Δ ρ χ = (i : ℕ) (b : Ty) → slice_get Γ i ≡ Some b → (slice_get Δ i ≡ Some b) × (χ i b ≡ ρ i b)

    agrees_up : (Γ Δ : List Ty) (ρ χ : Valuation) (a : Ty) (v : Sem a) → Agrees Γ Δ ρ χ → Agrees (a ∷ Γ) (a ∷ Δ) (push a v ρ) (push a v χ)
    agrees_up Γ Δ ρ χ a v h zero b e = (e, refl)
    agrees_up Γ Δ ρ χ a v h (suc i) b e = h i b e

    mutual
      pub value_agree : {Γ : List Ty} {t : Tm} {a : Ty} (Δ : List Ty) (ρ χ : Valuation) → Agrees Γ Δ ρ χ → Typed S M Γ t a
          → value_in S M m Δ t χ a ≡ value_in S M m Γ t ρ a
      value_agree Δ ρ χ h (typed_bound {i = i} {a = a} e) = (h i a e).1
      value_agree Δ ρ χ h (typed_free p) = refl
      value_agree Δ ρ χ h (typed_fun e) = refl
      value_agree {Γ = Γ} Δ ρ χ h (typed_meta {z = z} {ts = ts} {d = d} {a = a} e ps o) =
          subst (λ d. fed S M m Δ χ d.args a (m.of_metas z (arrows d.args a)) ts ≡ fed S M m Γ ρ d.args a (m.of_metas z (arrows d.args a)) ts) (sym (declared_is M z d e))
          (fed_agree Δ ρ χ h a (m.of_metas z (arrows d.args a)) ps)
      value_agree {Γ = Γ} Δ ρ χ h (typed_lam {a = a} p t) = fun_ext (λ v. value_agree (a ∷ Δ) (push a v ρ) (push a v χ) (agrees_up Γ Δ ρ χ a v h) t)
      value_agree {Γ = Γ} {a = b} Δ ρ χ h (typed_app {a = a} {t = t} {u = u} p q) =
          value_app Δ t u χ b a (type_is Δ (λ i c e. (h i c e).0) q)
          ∙ ap₂ (λ f x. f x) (value_agree Δ ρ χ h p) (value_agree Δ ρ χ h q)
          ∙ sym (value_app Γ t u ρ b a (type_is Γ (has_same Γ) q))

      fed_agree : {Γ : List Ty} {ts : Tms} {cs : List Ty} (Δ : List Ty) (ρ χ : Valuation) → Agrees Γ Δ ρ χ
          → (A : Ty) (f : Sem (arrows cs A)) → AllTyped S M Γ ts cs
          → fed S M m Δ χ cs A f ts ≡ fed S M m Γ ρ cs A f ts
      fed_agree Δ ρ χ h A f typed_none = refl
      fed_agree {Γ = Γ} Δ ρ χ h A f (typed_more {t = t} {ts = ts} {a = c} {bs = cs} p ps) =
          ap (λ x. fed S M m Δ χ cs A (f x) ts) (value_agree Δ ρ χ h p) ∙ fed_agree Δ ρ χ h A (f (value_in S M m Γ t ρ c)) ps

    mutual
      unfolding rename renames

      pub value_rename : (t : Tm) (Γ Δ : List Ty) (r : ℕ → ℕ) → KeepsAll Γ Δ r → (ρ : Valuation) (A : Ty)
          → value_in S M m Δ (rename r t) ρ A ≡ value_in S M m Γ t (λ i B. ρ (r i) B) A
      value_rename (bound i) Γ Δ r h ρ A = refl
      value_rename (free x a) Γ Δ r h ρ A = refl
      value_rename (fun f) Γ Δ r h ρ A = refl
      value_rename (meta z ts) Γ Δ r h ρ A = fed_rename ts Γ Δ r h ρ (declared_at M z).args A (m.of_metas z (arrows (declared_at M z).args A))
      value_rename (lam b t) Γ Δ r h ρ (sort s) = refl
      value_rename (lam b t) Γ Δ r h ρ (A ⇒ C) = fun_ext (λ v. value_rename t (b ∷ Γ) (b ∷ Δ) (up_renaming r) (keeps_up Γ Δ r b h) (push A v ρ) C
          ∙ ap (λ ρ. value_in S M m (b ∷ Γ) t ρ C) (push_rename A v ρ r))
      value_rename (app t u) Γ Δ r h ρ A =
          value_app Δ (rename r t) (rename r u) ρ A (type_in S M Γ u) (type_rename u Γ Δ r h)
          ∙ ap₂ (λ f x. f x) (value_rename t Γ Δ r h ρ (type_in S M Γ u ⇒ A)) (value_rename u Γ Δ r h ρ (type_in S M Γ u))

      fed_rename : (ts : Tms) (Γ Δ : List Ty) (r : ℕ → ℕ) → KeepsAll Γ Δ r
          → (ρ : Valuation) (cs : List Ty) (A : Ty) (f : Sem (arrows cs A))
          → fed S M m Δ ρ cs A f (renames r ts) ≡ fed S M m Γ (λ i B. ρ (r i) B) cs A f ts
      fed_rename none Γ Δ r h ρ [] A f = refl
      fed_rename none Γ Δ r h ρ (c ∷ cs) A f = refl
      fed_rename (more t ts) Γ Δ r h ρ [] A f = refl
      fed_rename (more t ts) Γ Δ r h ρ (c ∷ cs) A f =
          ap (λ x. fed S M m Δ ρ cs A (f x) (renames r ts)) (value_rename t Γ Δ r h ρ c) ∙ fed_rename ts Γ Δ r h ρ cs A (f (value_in S M m Γ t (λ i B. ρ (r i) B) c))

    push_acted : (Δ : List Ty) (σ : ℕ → Tm) (b B : Ty) (v : Sem B) (ρ : Valuation) (i : ℕ) (D : Ty)
        → value_in S M m (b ∷ Δ) (up σ i) (push B v ρ) D ≡ push B v (λ i D. value_in S M m Δ (σ i) ρ D) i D
    unfolding up
    push_acted Δ σ b B v ρ zero D = refl
    push_acted Δ σ b B v ρ (suc i) D = value_rename (σ i) Δ (b ∷ Δ) suc (λ j. refl) (push B v ρ) D

    mutual
      unfolding act acts

      pub value_act : (t : Tm) (Γ Δ : List Ty) (σ : ℕ → Tm) → FitsAll Γ Δ σ → (ρ : Valuation) (A : Ty)
          → value_in S M m Δ (act σ free t) ρ A ≡ value_in S M m Γ t (λ i B. value_in S M m Δ (σ i) ρ B) A
      value_act (bound i) Γ Δ σ h ρ A = refl
      value_act (free x a) Γ Δ σ h ρ A = refl
      value_act (fun f) Γ Δ σ h ρ A = refl
      value_act (meta z ts) Γ Δ σ h ρ A = fed_act ts Γ Δ σ h ρ (declared_at M z).args A (m.of_metas z (arrows (declared_at M z).args A))
      value_act (lam b t) Γ Δ σ h ρ (sort s) = refl
      value_act (lam b t) Γ Δ σ h ρ (A ⇒ C) = fun_ext (λ v.
          ap (λ u. value_in S M m (b ∷ Δ) u (push A v ρ) C) (free_up σ t)
          ∙ value_act t (b ∷ Γ) (b ∷ Δ) (up σ) (fits_all_up Γ Δ σ b h) (push A v ρ) C
          ∙ ap (λ ρ. value_in S M m (b ∷ Γ) t ρ C) (fun_ext (λ i. fun_ext (λ D. push_acted Δ σ b A v ρ i D))))
      value_act (app t u) Γ Δ σ h ρ A =
          value_app Δ (act σ free t) (act σ free u) ρ A (type_in S M Γ u) (type_act u Γ Δ σ h)
          ∙ ap₂ (λ f x. f x) (value_act t Γ Δ σ h ρ (type_in S M Γ u ⇒ A)) (value_act u Γ Δ σ h ρ (type_in S M Γ u))

      fed_act : (ts : Tms) (Γ Δ : List Ty) (σ : ℕ → Tm) → FitsAll Γ Δ σ → (ρ : Valuation) (cs : List Ty) (A : Ty) (f : Sem (arrows cs A))
          → fed S M m Δ ρ cs A f (acts σ free ts) ≡ fed S M m Γ (λ i B. value_in S M m Δ (σ i) ρ B) cs A f ts
      fed_act none Γ Δ σ h ρ [] A f = refl
      fed_act none Γ Δ σ h ρ (c ∷ cs) A f = refl
      fed_act (more t ts) Γ Δ σ h ρ [] A f = refl
      fed_act (more t ts) Γ Δ σ h ρ (c ∷ cs) A f =
          ap (λ x. fed S M m Δ ρ cs A (f x) (acts σ free ts)) (value_act t Γ Δ σ h ρ c) ∙ fed_act ts Γ Δ σ h ρ cs A (f (value_in S M m Γ t (λ i B. value_in S M m Δ (σ i) ρ B) c))

    fits_all_cons : (Γ : List Ty) (u : Tm) (a : Ty) → type_in S M Γ u ≡ a → FitsAll (a ∷ Γ) Γ (cons u bound)
    unfolding cons
    fits_all_cons Γ u a e zero = e
    fits_all_cons Γ u a e (suc i) = refl

    agrees_cons : (Γ : List Ty) (u : Tm) (a : Ty) (ρ : Valuation)
        → Agrees (a ∷ Γ) (a ∷ Γ) (push a (value_in S M m Γ u ρ a) ρ) (λ i D. value_in S M m Γ (cons u bound i) ρ D)
    unfolding cons
    agrees_cons Γ u a ρ zero b e = (e, sym (push_here a b (some_one e) (λ c. value_in S M m Γ u ρ c) ρ))
    agrees_cons Γ u a ρ (suc i) b e = (e, refl)

    -- a beta step keeps the value
    pub value_beta : {Γ : List Ty} {t u : Tm} {a b : Ty} (ρ : Valuation) → Typed S M (a ∷ Γ) t b → Typed S M Γ u a
        → value_in S M m Γ (opened u t) ρ b ≡ value_in S M m Γ (app (lam a t) u) ρ b
    unfolding opened
    value_beta {Γ = Γ} {t = t} {u = u} {a = a} {b = b} ρ p q =
        value_act t (a ∷ Γ) Γ (cons u bound) (fits_all_cons Γ u a (type_is Γ (has_same Γ) q)) ρ b
        ∙ value_agree (a ∷ Γ) (push a (value_in S M m Γ u ρ a) ρ) (λ i D. value_in S M m Γ (cons u bound i) ρ D) (agrees_cons Γ u a ρ) p
        ∙ sym (value_app Γ (lam a t) u ρ b a (type_is Γ (has_same Γ) q))

    module _ (mono_m : MonoMeanings m) where
      mutual
        pub value_mono : (t : Tm) (Γ : List Ty) (ρ : Valuation) → MonoValuation ρ → (A : Ty) → Mono A (value_in S M m Γ t ρ A)
        value_mono (bound i) Γ ρ h A = h i A
        value_mono (free x a) Γ ρ h A = mono_m.free x A
        value_mono (fun f) Γ ρ h A = mono_m.symbols f A
        value_mono (meta z ts) Γ ρ h A = fed_mono ts Γ ρ h (declared_at M z).args A (m.of_metas z (arrows (declared_at M z).args A)) (mono_m.metas z (arrows (declared_at M z).args A))
        value_mono (lam b t) Γ ρ h (sort s) = tt
        value_mono (lam b t) Γ ρ h (A ⇒ C) = (
          λ v mv. value_mono t (b ∷ Γ) (push A v ρ) (mono_push A v ρ mv h) C,
          λ v w mv mw k. value_le t (b ∷ Γ) (push A v ρ) (push A w ρ) (mono_push A v ρ mv h) (mono_push A w ρ mw h) (le_push A v w ρ ρ k (λ i D. le_same D (ρ i D))) C,
        )
        value_mono (app t u) Γ ρ h A = (value_mono t Γ ρ h (type_in S M Γ u ⇒ A)).0 (value_in S M m Γ u ρ (type_in S M Γ u)) (value_mono u Γ ρ h (type_in S M Γ u))

        fed_mono : (ts : Tms) (Γ : List Ty) (ρ : Valuation) → MonoValuation ρ → (cs : List Ty) (A : Ty) (f : Sem (arrows cs A))
            → Mono (arrows cs A) f → Mono A (fed S M m Γ ρ cs A f ts)
        fed_mono none Γ ρ h [] A f mf = mf
        fed_mono none Γ ρ h (c ∷ cs) A f mf = mono_nothing A
        fed_mono (more t ts) Γ ρ h [] A f mf = mf
        fed_mono (more t ts) Γ ρ h (c ∷ cs) A f mf = fed_mono ts Γ ρ h cs A (f (value_in S M m Γ t ρ c)) (mf.0 (value_in S M m Γ t ρ c) (value_mono t Γ ρ h c))

        -- greater values of loose variables give a value at least as great
        pub value_le : (t : Tm) (Γ : List Ty) (ρ χ : Valuation) → MonoValuation ρ → MonoValuation χ → LeValuation ρ χ → (A : Ty)
            → Le A (value_in S M m Γ t ρ A) (value_in S M m Γ t χ A)
        value_le (bound i) Γ ρ χ h k l A = l i A
        value_le (free x a) Γ ρ χ h k l A = le_same A (m.of_free x A)
        value_le (fun f) Γ ρ χ h k l A = le_same A (m.of_symbols f A)
        value_le (meta z ts) Γ ρ χ h k l A =
            let C = arrows (declared_at M z).args A in
            fed_le ts Γ ρ χ h k l (declared_at M z).args A (m.of_metas z C) (m.of_metas z C) (mono_m.metas z C) (mono_m.metas z C) (le_same C (m.of_metas z C))
        value_le (lam b t) Γ ρ χ h k l (sort s) = le_nat 0
        value_le (lam b t) Γ ρ χ h k l (A ⇒ C) = λ v mv. value_le t (b ∷ Γ) (push A v ρ) (push A v χ) (mono_push A v ρ mv h) (mono_push A v χ mv k) (le_push A v v ρ χ (le_same A v) l) C
        value_le (app t u) Γ ρ χ h k l A =
            let B = type_in S M Γ u in
            let x = value_in S M m Γ u ρ B in
            let y = value_in S M m Γ u χ B in
            let my = value_mono u Γ χ k B in
            le_then A (value_in S M m Γ t ρ (B ⇒ A) x) (value_in S M m Γ t ρ (B ⇒ A) y) (value_in S M m Γ t χ (B ⇒ A) y)
            ((value_mono t Γ ρ h (B ⇒ A)).1 x y (value_mono u Γ ρ h B) my (value_le u Γ ρ χ h k l B)) (value_le t Γ ρ χ h k l (B ⇒ A) y my)

        pub fed_le : (ts : Tms) (Γ : List Ty) (ρ χ : Valuation) → MonoValuation ρ → MonoValuation χ → LeValuation ρ χ
            → (cs : List Ty) (A : Ty) (f g : Sem (arrows cs A)) → Mono (arrows cs A) f → Mono (arrows cs A) g
            → Le (arrows cs A) f g → Le A (fed S M m Γ ρ cs A f ts) (fed S M m Γ χ cs A g ts)
        fed_le none Γ ρ χ h k l [] A f g mf mg q = q
        fed_le none Γ ρ χ h k l (c ∷ cs) A f g mf mg q = le_same A (nothing A)
        fed_le (more t ts) Γ ρ χ h k l [] A f g mf mg q = q
        fed_le (more t ts) Γ ρ χ h k l (c ∷ cs) A f g mf mg q =
            let x = value_in S M m Γ t ρ c in
            let y = value_in S M m Γ t χ c in
            let mx = value_mono t Γ ρ h c in
            let my = value_mono t Γ χ k c in
            fed_le ts Γ ρ χ h k l cs A (f x) (g y) (mf.0 x mx) (mg.0 y my)
            (le_then (arrows cs A) (f x) (f y) (g y) (mf.1 x y mx my (value_le t Γ ρ χ h k l c)) (q y my))
