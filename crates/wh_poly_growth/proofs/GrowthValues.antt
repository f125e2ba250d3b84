-- Values of trees where symbols, meta-variables and free variables mean no less, and readings at the variables' own values.
use Rattle.std.proofs.Common.{◌≡◌, ℕ, suc, List, ◌++◌, length, refl, ap, sym, subst, ◌∙◌, ◌≤◌, Bool, true, false, eqb, eqb-true, Some, slice_get}
use native.Mathlib.Decide.{ℕ_discrete}
use mathlib.Core.Path.{fun_ext, path_j, subst₂, subst_refl}
use Rattle.wh_types.specs.Ty.{Ty, Ty-discrete, sort, ◌⇒◌, arguments}
use Rattle.wh_terms.specs.Tree.{Tm, Tms}
use Rattle.wh_terms.specs.Typing.{Symbols, Declared, Typed, typed_bound, typed_free, typed_fun, typed_meta, typed_lam, typed_app, AllTyped, typed_none, typed_more}
use Rattle.wh_poly.specs.Polynomials.{Polynomial}
use Rattle.wh_poly_meaning.specs.Functionals.{Sem, Mono, Le}
use Rattle.wh_poly_meaning.specs.Valuations.{Valuation, at_type, put, MonoValuation, LeValuation, fun_of}
use Rattle.wh_poly_meaning.specs.Meaning.{den, reading}
use Rattle.wh_poly_meaning.specs.TermValues.{Meanings, MonoMeanings, push, value_in, fed}
use Rattle.wh_polycheck.specs.Sides.{arrows}
use Rattle.wh_poly_meaning.proofs.Order.{le_same, le_then}
use Rattle.wh_poly_meaning.proofs.TermValues.{declared_is, has_same, type_is, value_app, value_mono, mono_push, le_push}

module _ (S : Symbols) (M : List Declared) (m n : Meanings) (mono_m : MonoMeanings m) (mono_n : MonoMeanings n)
    (symbols : (f : ℕ) (A : Ty) → slice_get S.funs f ≡ Some A → Le A (m.of_symbols f A) (n.of_symbols f A))
    (metas : LeValuation m.of_metas n.of_metas) (frees : LeValuation m.of_free n.of_free) where
  mutual
    -- a typed tree means no less
    pub value_grows : {Γ : List Ty} {t : Tm} {a : Ty} (ρ χ : Valuation) → MonoValuation ρ → MonoValuation χ → LeValuation ρ χ
        → Typed S M Γ t a → Le a (value_in S M m Γ t ρ a) (value_in S M n Γ t χ a)
    value_grows ρ χ h k l (typed_bound {i = i} {a = a} e) = l i a
    value_grows ρ χ h k l (typed_free {x = x} {a = a} p) = frees x a
    value_grows ρ χ h k l (typed_fun {f = f} {a = a} e) = symbols f a e
    value_grows {Γ = Γ} ρ χ h k l (typed_meta {z = z} {ts = ts} {d = d} {a = a} e ps o) =
        let C = arrows d.args a in
        subst (λ d. Le a (fed S M m Γ ρ d.args a (m.of_metas z (arrows d.args a)) ts)
        (fed S M n Γ χ d.args a (n.of_metas z (arrows d.args a)) ts))
        (sym (declared_is M z d e))
        (fed_grows ρ χ h k l a (m.of_metas z C) (n.of_metas z C) (mono_m.metas z C) (mono_n.metas z C) (metas z C) ps)
    value_grows ρ χ h k l (typed_lam {a = a} p q) =
        λ v mv. value_grows (push a v ρ) (push a v χ) (mono_push a v ρ mv h) (mono_push a v χ mv k) (le_push a v v ρ χ (le_same a v) l) q
    value_grows {Γ = Γ} {a = b} ρ χ h k l (typed_app {a = a} {t = t} {u = u} p q) =
        let e = type_is Γ (has_same Γ) q in
        let x = value_in S M m Γ u ρ a in
        let y = value_in S M n Γ u χ a in
        let f = value_in S M m Γ t ρ (a ⇒ b) in
        let g = value_in S M n Γ t χ (a ⇒ b) in
        let mx = value_mono S M m mono_m u Γ ρ h a in
        let my = value_mono S M n mono_n u Γ χ k a in
        subst₂ (Le b) (sym (value_app S M m Γ t u ρ b a e)) (sym (value_app S M n Γ t u χ b a e))
        (le_then b (f x) (f y) (g y)
        ((value_mono S M m mono_m t Γ ρ h (a ⇒ b)).1 x y mx my (value_grows ρ χ h k l q)) (value_grows ρ χ h k l p y my))

    -- and so does a function that is no less, of typed arguments
    pub fed_grows : {Γ : List Ty} {ts : Tms} {cs : List Ty} (ρ χ : Valuation) → MonoValuation ρ → MonoValuation χ → LeValuation ρ χ
        → (A : Ty) (f g : Sem (arrows cs A)) → Mono (arrows cs A) f → Mono (arrows cs A) g → Le (arrows cs A) f g → AllTyped S M Γ ts cs
        → Le A (fed S M m Γ ρ cs A f ts) (fed S M n Γ χ cs A g ts)
    fed_grows ρ χ h k l A f g mf mg q typed_none = q
    fed_grows {Γ = Γ} ρ χ h k l A f g mf mg q (typed_more {t = t} {a = c} {bs = cs} p ps) =
        let x = value_in S M m Γ t ρ c in
        let y = value_in S M n Γ t χ c in
        let mx = value_mono S M m mono_m t Γ ρ h c in
        let my = value_mono S M n mono_n t Γ χ k c in
        fed_grows ρ χ h k l A (f x) (g y) (mf.0 x mx) (mg.0 y my)
        (le_then (arrows cs A) (f x) (f y) (g y) (mf.1 x y mx my (value_grows ρ χ h k l p)) (q y my)) ps

-- a variable's own value, taken at another variable that is the same
own_at : (ψ : Valuation) (n i : ℕ) → n ≡ i → (A B : Ty) (d : Dec (A ≡ B)) → at_type A B d (ψ n A) (ψ i B) ≡ ψ i B
unfolding at_type
own_at ψ n i e A B (yes q) = path_j (λ B q. subst Sem q (ψ n A) ≡ ψ i B) (subst_refl Sem {x = A} (ψ n A) ∙ ap (λ i. ψ i A) e) q
own_at ψ n i e A B (no q) = refl

own_put : (n : ℕ) (A : Ty) (ψ : Valuation) (i : ℕ) (B : Ty) → put n A (ψ n A) ψ i B ≡ ψ i B
unfolding put
own_put n A ψ i B = go (eqb i n) refl
  where
    go : (b : Bool) → eqb i n ≡ b
        → elim b as (λ b. Sem B) [ true ↦ at_type A B (Ty-discrete ℕ_discrete A B) (ψ n A) (ψ i B) | false ↦ ψ i B ] ≡ ψ i B
    go true e = own_at ψ n i (sym (eqb-true i n e)) A B (Ty-discrete ℕ_discrete A B)
    go false e = refl

-- putting a variable's own value changes nothing
put_own : (n : ℕ) (A : Ty) (ψ : Valuation) → put n A (ψ n A) ψ ≡ ψ
put_own n A ψ = fun_ext (λ i. fun_ext (λ B. own_put n A ψ i B))

-- of two functions of added variables the greater one is greater at the values that the valuation has for them
le_at_own : (A : Ty) (n : ℕ) (ψ : Valuation) → MonoValuation ψ → (F G : Valuation → ℕ)
    → Le A (fun_of A n ψ F) (fun_of A n ψ G) → F ψ ≤ G ψ
le_at_own (sort s) n ψ m F G l = l
le_at_own (A ⇒ B) n ψ m F G l =
    le_at_own B (suc n) ψ m F G (subst (λ χ. Le B (fun_of B (suc n) χ F) (fun_of B (suc n) χ G)) (put_own n A ψ) (l (ψ n A) (m n A)))

-- so it is of what polynomials mean
pub den_by_reading : (A : Ty) (Γ : List Ty) (ψ : Valuation) → MonoValuation ψ → (p q : Polynomial)
    → Le A (reading A Γ ψ p) (reading A Γ ψ q) → den (Γ ++ arguments A) ψ p ≤ den (Γ ++ arguments A) ψ q
den_by_reading A Γ ψ m p q l = le_at_own A (length Γ) ψ m (λ χ. den (Γ ++ arguments A) χ p) (λ χ. den (Γ ++ arguments A) χ q) l
