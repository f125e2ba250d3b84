-- A side as an expression is well typed, and has the side's type.
use Rattle.std.proofs.Common.{length-append, ◌≡◌, ℕ, zero, suc, ◌+◌, ◌-◌, List, [], ◌∷◌, length, ap, ◌∙◌, sym, subst, arith, Some, slice_get}
use Rattle.std.proofs.lemmas.Option.{none-some, same_Some}
use Rattle.wh_types.specs.Ty.{Ty, ◌⇒◌}
use Rattle.wh_terms.specs.Tree.{Tm, Tms}
use Rattle.wh_terms.specs.Sight.{NoFree, AllNoFree}
use Rattle.wh_terms.specs.Typing.{Symbols, Declared, Typed, typed_bound, typed_free, typed_fun, typed_meta, typed_lam, typed_app, AllTyped, typed_none, typed_more}
use Rattle.wh_poly.specs.Polynomials.{HasType}
use Rattle.wh_hopoly.specs.Evaluation.{Expression, var, apply, Interpretation, type_of, codomain, TypedExpression}
use Rattle.wh_hopoly.proofs.ReplaceLaws.{type_is as variable_type, at_left, at_right}
use Rattle.wh_hopoly.proofs.ValueLaws.{interpretation_is}
use Rattle.wh_polycheck.specs.Sides.{arrows}
use Rattle.wh_polycheck.specs.Sides.{types_of_metas, side_scope, side, side_applied, Interprets}

pub scope_longer : (M : List Declared) (Γ : List Ty) (a : Ty) → length (side_scope M (a ∷ Γ)) ≡ suc (length (side_scope M Γ))
scope_longer M Γ a = length-append (side_scope M Γ) (a ∷ []) ∙ omega arith

metas_in_scope : (M : List Declared) (z : ℕ) (d : Declared) → slice_get M z ≡ Some d → HasType (types_of_metas M) z (arrows d.args d.out)
metas_in_scope [] z d e = absurd (none-some d e)
metas_in_scope (c ∷ M) zero d e = ap (λ d. arrows d.args d.out) (same_Some c d e)
metas_in_scope (c ∷ M) (suc z) d e = metas_in_scope M z d e

-- a meta-variable is in the scope
pub meta_in_scope : (M : List Declared) (Γ : List Ty) (z : ℕ) (d : Declared) → slice_get M z ≡ Some d
    → HasType (side_scope M Γ) z (arrows d.args d.out)
meta_in_scope M [] z d e = metas_in_scope M z d e
meta_in_scope M (a ∷ Γ) z d e = at_left (side_scope M Γ) (a ∷ []) z (arrows d.args d.out) (meta_in_scope M Γ z d e)

-- and so is a binder's variable
pub bound_in_scope : (M : List Declared) (Γ : List Ty) (i : ℕ) (b : Ty) → slice_get Γ i ≡ Some b
    → HasType (side_scope M Γ) (length (side_scope M Γ) - 1 - i) b
bound_in_scope M [] i b e = absurd (none-some b e)
bound_in_scope M (a ∷ Γ) zero b e = let l = scope_longer M Γ a in
    subst (λ k. HasType (side_scope M (a ∷ Γ)) k b) (let z : length (side_scope M Γ) + 0 ≡ length (side_scope M (a ∷ Γ)) - 1 - 0 = omega (arith, l) in z)
    (at_right (side_scope M Γ) (a ∷ []) 0 b (same_Some a b e))
bound_in_scope M (a ∷ Γ) (suc i) b e = let l = scope_longer M Γ a in
    subst (λ k. HasType (side_scope M (a ∷ Γ)) k b) (let z : length (side_scope M Γ) - 1 - i ≡ length (side_scope M (a ∷ Γ)) - 1 - suc i = omega (arith, l) in z)
    (at_left (side_scope M Γ) (a ∷ []) (length (side_scope M Γ) - 1 - i) b (bound_in_scope M Γ i b e))

module _ (S : Symbols) (M : List Declared) (symbols : List Interpretation) (interprets : Interprets S symbols) where
  -- an expression is well typed and has the type
  abbrev pub HasSideType : List Ty → Expression → Ty → Type 0
  HasSideType Γ e a = TypedExpression symbols (side_scope M Γ) e × (type_of symbols (side_scope M Γ) e ≡ a)

  applied_typed : (Γ : List Ty) (e d : Expression) (a b : Ty) → HasSideType Γ e (a ⇒ b) → HasSideType Γ d a → HasSideType Γ (apply e d) b
  applied_typed Γ e d a b (t, h) (u, k) = ((t, u, b, h ∙ ap (λ c. c ⇒ b) (sym k)), ap codomain h)

  mutual
    pub side_typed : {Γ : List Ty} {t : Tm} {a : Ty} (n : ℕ) → n ≡ length (side_scope M Γ) → Typed S M Γ t a → NoFree t
        → HasSideType Γ (side n t) a
    side_typed {Γ = Γ} n l (typed_bound {i = i} {a = a} e) f =
        let h : HasType (side_scope M Γ) (n - 1 - i) a = subst (λ n. HasType (side_scope M Γ) (n - 1 - i) a) (sym l) (bound_in_scope M Γ i a e) in
        ((a, h), variable_type (side_scope M Γ) (n - 1 - i) a h)
    side_typed n l (typed_free p) f = absurd f
    side_typed n l (typed_fun {f = f} {a = a} e) k = let (s, i, j) = interprets f a e in ((s, i), ap (λ s. s.kind) (interpretation_is symbols f s i) ∙ j)
    side_typed {Γ = Γ} n l (typed_meta {z = z} {ts = ts} {d = d} {a = a} e ps o) f =
        let h = meta_in_scope M Γ z d e in
        subst (HasSideType Γ (side_applied n (var z) ts)) (sym o)
        (side_applied_typed n l (var z) d.out ((arrows d.args d.out, h), variable_type (side_scope M Γ) z (arrows d.args d.out) h) ps f)
    side_typed {Γ = Γ} n l (typed_lam {a = a} {t = t} p q) f =
        let (t', h) = side_typed (suc n) (ap suc l ∙ sym (scope_longer M Γ a)) q f in (t', ap (λ b. a ⇒ b) h)
    side_typed {Γ = Γ} {a = b} n l (typed_app {a = a} {t = t} {u = u} p q) f = applied_typed Γ (side n t) (side n u) a b (side_typed n l p f.0) (side_typed n l q f.1)

    pub side_applied_typed : {Γ : List Ty} {ts : Tms} {cs : List Ty} (n : ℕ) → n ≡ length (side_scope M Γ) → (e : Expression) (a : Ty)
        → HasSideType Γ e (arrows cs a) → AllTyped S M Γ ts cs → AllNoFree ts
        → HasSideType Γ (side_applied n e ts) a
    side_applied_typed n l e a h typed_none f = h
    side_applied_typed {Γ = Γ} n l e a h (typed_more {t = t} {a = c} {bs = cs} p ps) f =
        side_applied_typed n l (apply e (side n t)) a (applied_typed Γ e (side n t) c (arrows cs a) h (side_typed n l p f.0)) ps f.1
