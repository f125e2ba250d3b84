-- What a side as an expression means is the side's value.
use Rattle.std.proofs.Common.{◌≡◌, ℕ, zero, suc, ◌-◌, List, [], ◌∷◌, ◌++◌, length, refl, ap, ap₂, ◌∙◌, sym, subst, arith, Some, slice_get}
use Rattle.std.proofs.lemmas.Option.{same_Some}
use mathlib.Core.Path.{fun_ext, path_j, subst_refl}
use native.Mathlib.Decide.{ℕ_discrete}
use Rattle.wh_types.specs.Ty.{Ty, Ty-discrete, ◌⇒◌, arguments}
use Rattle.wh_terms.specs.Tree.{Tm, Tms}
use Rattle.wh_terms.specs.Sight.{NoFree, AllNoFree}
use Rattle.wh_terms.specs.Typing.{Symbols, Declared, Typed, typed_bound, typed_free, typed_fun, typed_meta, typed_lam, typed_app, AllTyped, typed_none, typed_more}
use Rattle.wh_poly.specs.Polynomials.{Polynomial, Normal}
use Rattle.wh_hopoly.specs.Evaluation.{Expression, var, lambda, apply, Interpretation, interpretation_at, type_at, type_of, codomain, NormalInterpretations}
use Rattle.wh_hopoly.proofs.ReplaceLaws.{type_is as variable_type}
use Rattle.wh_hopoly.proofs.ValueLaws.{interpretation_is}
use Rattle.wh_poly_meaning.specs.Functionals.{Sem, nothing}
use Rattle.wh_poly_meaning.specs.Valuations.{Valuation, put}
use Rattle.wh_poly_meaning.specs.Meaning.{den, reading, apply_at, mean}
use Rattle.wh_poly_meaning.specs.TermValues.{Meanings, push, value_in, fed, of_interpretations}
use Rattle.wh_polycheck.specs.Sides.{arrows}
use Rattle.wh_polycheck.specs.Sides.{side_scope, side, side_applied, Interprets}
use Rattle.wh_poly_meaning.proofs.Valuations.{ty_set, at_itself, put_same, put_other}
use Rattle.wh_poly_meaning.proofs.Den.{at_below, fun_same, moves_same, den_agree}
use Rattle.wh_poly_meaning.proofs.Mean.{apply_is}
use Rattle.wh_poly_meaning.proofs.TermValues.{declared_is, has_same, type_is, value_app}
use Rattle.wh_polycheck.proofs.SideTypes.{scope_longer, meta_in_scope, bound_in_scope, side_typed}

-- a value taken along an equality of a type with itself
along_itself : (A : Ty) (x : Sem A) (e : A ≡ A) → subst Sem e x ≡ x
along_itself A x e = ap (λ e. subst Sem e x) (ty_set A A e refl) ∙ subst_refl Sem {x = A} x

-- a valuation taken along an equality of types
valuation_along : (χ : Valuation) (k : ℕ) (A B : Ty) (e : A ≡ B) → subst Sem e (χ k A) ≡ χ k B
valuation_along χ k A B e = path_j (λ B e. subst Sem e (χ k A) ≡ χ k B) (along_itself A (χ k A) refl) e

reading_along : (ψ : Valuation) (p : Polynomial) (A B : Ty) (e : A ≡ B) → subst Sem e (reading A [] ψ p) ≡ reading B [] ψ p
reading_along ψ p A B e = path_j (λ B e. subst Sem e (reading A [] ψ p) ≡ reading B [] ψ p) (along_itself A (reading A [] ψ p) refl) e

-- an interpretation means the same under all valuations
reading_closed : (A : Ty) (p : Polynomial) (ψ χ : Valuation) → Normal (arguments A) p → reading A [] χ p ≡ reading A [] ψ p
reading_closed A p ψ χ n = fun_same A [] [] (λ i. i) (moves_same []) ψ χ (λ ψ. den (arguments A) ψ p) (λ χ. den (arguments A) χ p) (λ i B a. absurd a)
    (λ ψ χ t. den_agree (arguments A) p n ψ χ t)

lambda_along : (a b c : Ty) (e : b ≡ c) (d : (a ⇒ b) ≡ (a ⇒ c)) (f : Sem a → Sem b) (v : Sem a)
    → (subst Sem {x = a ⇒ b} {y = a ⇒ c} d f) v ≡ subst Sem {x = b} {y = c} e (f v)
lambda_along a b c e d f v = path_j (λ c e. (d : (a ⇒ b) ≡ (a ⇒ c)) → (subst Sem {x = a ⇒ b} {y = a ⇒ c} d f) v ≡ subst Sem {x = b} {y = c} e (f v))
    (λ d. ap (λ g. g v) (along_itself (a ⇒ b) f d) ∙ sym (along_itself b (f v) refl)) e d

-- application where the types are known to fit
apply_same : (A B : Ty) (f : Sem (B ⇒ A)) (v : Sem B) (e : (B ⇒ A) ≡ (B ⇒ A)) (k : B ≡ B) (d : A ≡ A)
    → subst Sem {x = A} {y = A} d (apply_at (B ⇒ A) B f v) ≡ (subst Sem {x = B ⇒ A} {y = B ⇒ A} e f) (subst Sem {x = B} {y = B} k v)
apply_same A B f v e k d = along_itself A (apply_at (B ⇒ A) B f v) d ∙ apply_is B A f v
    ∙ sym (ap₂ (λ (g : Sem B → Sem A) (x : Sem B). g x) (along_itself (B ⇒ A) f e) (along_itself B v k))

apply_along : (A B C D : Ty) (f : Sem C) (v : Sem D) (e : C ≡ (B ⇒ A)) (k : D ≡ B) (d : codomain C ≡ A)
    → subst Sem {x = codomain C} {y = A} d (apply_at C D f v) ≡ (subst Sem {x = C} {y = B ⇒ A} e f) (subst Sem {x = D} {y = B} k v)
apply_along A B C D f v e k d = path_j
    (λ B k. (C : Ty) (f : Sem C) (e : C ≡ (B ⇒ A)) (d : codomain C ≡ A) → subst Sem {x = codomain C} {y = A} d (apply_at C D f v) ≡ (subst Sem {x = C} {y = B ⇒ A} e f) (subst Sem {x = D} {y = B} k v))
    (λ C f e d. path_j (λ C p. (f : Sem C) (e : C ≡ (D ⇒ A)) (d : codomain C ≡ A) → subst Sem {x = codomain C} {y = A} d (apply_at C D f v) ≡ (subst Sem {x = C} {y = D ⇒ A} e f) (subst Sem {x = D} {y = D} refl v))
    (λ f e d. apply_same A D f v e refl d) (sym e) f e d) k C f e d

pushed_same : (a : Ty) (v : Sem a) (ρ : Valuation) → push a v ρ zero a ≡ v
pushed_same a v ρ = at_itself a (Ty-discrete ℕ_discrete a a) v (nothing a)

module _ (S : Symbols) (M : List Declared) (symbols : List Interpretation) (interprets : Interprets S symbols) (normal : NormalInterpretations symbols) (m : Meanings)
    (means : (f : ℕ) (A : Ty) → m.of_symbols f A ≡ of_interpretations symbols f A) where
  -- the valuation has the values of the meta-variables and of the binders' variables
  pub record Reads (Γ : List Ty) (ρ χ : Valuation) : Type 0 where
    pub metas : (z : ℕ) (d : Declared) → slice_get M z ≡ Some d → χ z (arrows d.args d.out) ≡ m.of_metas z (arrows d.args d.out)
    pub binders : (i : ℕ) (b : Ty) → slice_get Γ i ≡ Some b → χ (length (side_scope M Γ) - 1 - i) b ≡ ρ i b

  reads_binders : (Γ : List Ty) (ρ χ : Valuation) (a : Ty) (v : Sem a) → Reads Γ ρ χ → (i : ℕ) (b : Ty) → slice_get (a ∷ Γ) i ≡ Some b
      → put (length (side_scope M Γ)) a v χ (length (side_scope M (a ∷ Γ)) - 1 - i) b ≡ push a v ρ i b
  reads_binders Γ ρ χ a v r zero b e =
      let l = scope_longer M Γ a in
      let n = length (side_scope M Γ) in
      ap (λ k. put n a v χ k b) (let z : length (side_scope M (a ∷ Γ)) - 1 - 0 ≡ n = omega (arith, l) in z)
      ∙ path_j (λ b e. put n a v χ n b ≡ push a v ρ zero b) (put_same n a v χ ∙ sym (pushed_same a v ρ)) (same_Some a b e)
  reads_binders Γ ρ χ a v r (suc i) b e =
      let l = scope_longer M Γ a in
      let n = length (side_scope M Γ) in
      let k = at_below (side_scope M Γ) (n - 1 - i) b (bound_in_scope M Γ i b e) in
      ap (λ k. put n a v χ k b) (let z : length (side_scope M (a ∷ Γ)) - 1 - suc i ≡ n - 1 - i = omega (arith, l) in z)
      ∙ put_other n a v χ (n - 1 - i) b (λ z. omega (arith, z, k))
      ∙ r.binders i b e

  reads_up : (Γ : List Ty) (ρ χ : Valuation) (a : Ty) (v : Sem a) → Reads Γ ρ χ
      → Reads (a ∷ Γ) (push a v ρ) (put (length (side_scope M Γ)) a v χ)
  reads_up Γ ρ χ a v r = record {
    metas = λ z d e. let k = at_below (side_scope M Γ) z (arrows d.args d.out) (meta_in_scope M Γ z d e) in
        put_other (length (side_scope M Γ)) a v χ z (arrows d.args d.out) (λ q. omega (arith, q, k)) ∙ r.metas z d e;
    binders = reads_binders Γ ρ χ a v r;
  }

  pub symbol_means : (f : ℕ) (a : Ty) (s : Interpretation) → slice_get symbols f ≡ Some s
      → (χ : Valuation) (e : (interpretation_at symbols f).kind ≡ a)
      → subst Sem e (reading (interpretation_at symbols f).kind [] χ (interpretation_at symbols f).polynomial) ≡ m.of_symbols f a
  symbol_means f a s i χ e =
      let t = interpretation_at symbols f in
      ap (subst Sem e) (reading_closed t.kind t.polynomial (λ x B. nothing B) χ (subst (λ s. Normal (arguments s.kind) s.polynomial) (sym (interpretation_is symbols f s i)) (normal f s i)))
      ∙ reading_along (λ x B. nothing B) t.polynomial t.kind a e ∙ sym (means f a)

  mutual
    pub mean_side : {Γ : List Ty} {t : Tm} {a : Ty} (n : ℕ) → n ≡ length (side_scope M Γ) → (ρ χ : Valuation) → Reads Γ ρ χ
        → Typed S M Γ t a → NoFree t
        → (e : type_of symbols (side_scope M Γ) (side n t) ≡ a)
        → subst Sem e (mean symbols (side_scope M Γ) (side n t) χ) ≡ value_in S M m Γ t ρ a
    mean_side {Γ = Γ} n l ρ χ r (typed_bound {i = i} {a = a} h) f e = valuation_along χ (n - 1 - i) (type_at (side_scope M Γ) (n - 1 - i)) a e
        ∙ ap (λ n. χ (n - 1 - i) a) l ∙ r.binders i a h
    mean_side n l ρ χ r (typed_free p) f e = absurd f
    mean_side n l ρ χ r (typed_fun {f = f} {a = a} h) k e = let (s, i, j) = interprets f a h in symbol_means f a s i χ e
    mean_side {Γ = Γ} n l ρ χ r (typed_meta {z = z} {ts = ts} {d = d} {a = a} h ps o) f e =
        let C = arrows d.args a in
        let c : type_at (side_scope M Γ) z ≡ C = variable_type (side_scope M Γ) z (arrows d.args d.out) (meta_in_scope M Γ z d h) ∙ ap (arrows d.args) (sym o) in
        mean_applied n l ρ χ r (var z) a c ps f e
        ∙ ap (λ x. fed S M m Γ ρ d.args a x ts) (valuation_along χ z (type_at (side_scope M Γ) z) C c ∙ subst (λ a. χ z (arrows d.args a) ≡ m.of_metas z (arrows d.args a)) (sym o) (r.metas z d h))
        ∙ ap (λ d. fed S M m Γ ρ d.args a (m.of_metas z (arrows d.args a)) ts) (sym (declared_is M z d h))
    mean_side {Γ = Γ} n l ρ χ r (typed_lam {a = a} {b = b} {t = t} p q) f e =
        let k = ap suc l ∙ sym (scope_longer M Γ a) in
        let (w, c) = side_typed S M symbols interprets (suc n) k q f in
        fun_ext (λ v. lambda_along a (type_of symbols (side_scope M Γ ++ a ∷ []) (side (suc n) t)) b c e (mean symbols (side_scope M Γ) (lambda a (side (suc n) t)) χ) v
        ∙ mean_side (suc n) k (push a v ρ) (put (length (side_scope M Γ)) a v χ) (reads_up Γ ρ χ a v r) q f c)
    mean_side {Γ = Γ} {a = b} n l ρ χ r (typed_app {a = a} {t = t} {u = u} p q) f e =
        let Δ = side_scope M Γ in
        let c = (side_typed S M symbols interprets n l p f.0).1 in
        let d = (side_typed S M symbols interprets n l q f.1).1 in
        apply_along b a (type_of symbols Δ (side n t)) (type_of symbols Δ (side n u)) (mean symbols Δ (side n t) χ) (mean symbols Δ (side n u) χ) c d e
        ∙ ap₂ (λ g x. g x) (mean_side n l ρ χ r p f.0 c) (mean_side n l ρ χ r q f.1 d)
        ∙ sym (value_app S M m Γ t u ρ b a (type_is Γ (has_same Γ) q))

    pub mean_applied : {Γ : List Ty} {ts : Tms} {cs : List Ty} (n : ℕ) → n ≡ length (side_scope M Γ) → (ρ χ : Valuation) → Reads Γ ρ χ
        → (x : Expression) (a : Ty) (c : type_of symbols (side_scope M Γ) x ≡ arrows cs a)
        → AllTyped S M Γ ts cs → AllNoFree ts → (e : type_of symbols (side_scope M Γ) (side_applied n x ts) ≡ a)
        → subst Sem e (mean symbols (side_scope M Γ) (side_applied n x ts) χ) ≡ fed S M m Γ ρ cs a (subst Sem c (mean symbols (side_scope M Γ) x χ)) ts
    mean_applied {Γ = Γ} n l ρ χ r x a c typed_none f e = ap (λ e. subst Sem e (mean symbols (side_scope M Γ) x χ)) (ty_set (type_of symbols (side_scope M Γ) x) a e c)
    mean_applied {Γ = Γ} n l ρ χ r x a c (typed_more {t = t} {ts = ts} {a = b} {bs = cs} p ps) f e =
        let Δ = side_scope M Γ in
        let d = (side_typed S M symbols interprets n l p f.0).1 in
        let k : codomain (type_of symbols Δ x) ≡ arrows cs a = ap codomain c in
        mean_applied n l ρ χ r (apply x (side n t)) a k ps f.1 e
        ∙ ap (λ y. fed S M m Γ ρ cs a y ts)
        (apply_along (arrows cs a) b (type_of symbols Δ x) (type_of symbols Δ (side n t)) (mean symbols Δ x χ) (mean symbols Δ (side n t) χ) c d k
        ∙ ap (λ v. (subst Sem c (mean symbols Δ x χ)) v) (mean_side n l ρ χ r p f.0 d))
