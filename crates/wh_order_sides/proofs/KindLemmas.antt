-- The types of terms: where a type is found.
use Rattle.std.proofs.Common.{◌≡◌, ℕ, zero, suc, ◌+◌, ◌-◌, ◌<◌, ◌≤◌, List, [], ◌∷◌, ◌++◌, length, map, get_or, refl, ap, sym, ◌∙◌, arith}
use Rattle.std.specs.Borrow.{Bor}
use Rattle.std.proofs.lemmas.List.{length-map, length-reverse, get_or-map, get_or-reverse}
use Rattle.wh_types.specs.declared.simple_type.SimpleType.{SimpleType}
use Rattle.wh_types.specs.Ty.{Ty, sort, ◌⇒◌}
use Rattle.wh_types.specs.Erase.{ty, tys}
use Rattle.wh_terms.specs.Tree.{Tm, lam}
use Rattle.wh_terms.specs.Typing.{Symbols, Declared}
use Rattle.wh_terms.specs.Scope.{scope}
use Rattle.wh_terms.specs.Erase.{tm, declared_metas}
use Rattle.wh_terms.specs.declared.rule.MetaDecl.{MetaDecl}
use Rattle.wh_terms.specs.declared.term.Term.{Term, Meta}
use Rattle.wh_terms.proofs.TermLemmas.{tm_of_meta}
use Rattle.wh_terms.proofs.TypeWalk.{scope_push}
use Rattle.wh_order_extended.specs.Kinds.{type_at, out_at, kind}

type-past : (Γ : List Ty) (i : ℕ) → length Γ ≤ i → type_at Γ i ≡ sort 0
type-past [] i past = refl
type-past (a ∷ Γ) zero past = absurd (omega arith)
type-past (a ∷ Γ) (suc i) past = type-past Γ i (omega arith)

type-read : (Γ : List Ty) (i : ℕ) (d : Ty) → i < length Γ → type_at Γ i ≡ get_or Γ i d
type-read [] i d within = absurd (omega arith)
type-read (a ∷ Γ) zero d within = refl
type-read (a ∷ Γ) (suc i) d within = type-read Γ i d (omega arith)

-- binders, the outermost first

length-scope : (bs : List (Bor SimpleType)) → length (scope bs) ≡ length bs
length-scope bs = length-reverse (map (λ (kind : Bor SimpleType). ty kind.now) bs) ∙ length-map bs (λ (kind : Bor SimpleType). ty kind.now)

pub binder_past : (bs : List (Bor SimpleType)) (i : ℕ) → length bs ≤ i → type_at (scope bs) i ≡ sort 0
binder_past bs i past = type-past (scope bs) i (omega (arith, length-scope bs))

pub binder_here : (bs : List (Bor SimpleType)) (i j : ℕ) (k : Bor SimpleType) → i < length bs → j + 1 + i ≡ length bs → k ≡ get_or bs j k
    → type_at (scope bs) i ≡ ty k.now
binder_here bs i j k within at e =
    let f : Bor SimpleType → Ty = λ kind. ty kind.now in
    let l = length-map bs f in
    let low : i < length (map f bs) = omega arith in
    let n : (length (map f bs) - 1 - i) ≡ j = omega arith in
    type-read (scope bs) i (f k) (omega (arith, length-scope bs))
    ∙ get_or-reverse (map f bs) i (f k) low
    ∙ ap (λ m. get_or (map f bs) m (f k)) n
    ∙ get_or-map f bs j k (f k) (omega arith)
    ∙ ap f (sym e)

-- symbols and meta-variables by their numbers

pub symbol_past : (ks : List SimpleType) (i : ℕ) → length ks ≤ i → type_at (tys ks) i ≡ sort 0
symbol_past ks i past = type-past (tys ks) i (omega (arith, length-map ks ty))

pub symbol_here : (ks : List SimpleType) (i : ℕ) (k : SimpleType) → i < length ks → k ≡ get_or ks i k → type_at (tys ks) i ≡ ty k
symbol_here [] i k within e = absurd (omega arith)
symbol_here (x ∷ ks) zero k within e = ap ty (sym e)
symbol_here (x ∷ ks) (suc i) k within e = symbol_here ks i k (omega arith) e

pub meta_past : (ds : List MetaDecl) (z : ℕ) → length ds ≤ z → out_at (declared_metas ds) z ≡ sort 0
meta_past [] z past = refl
meta_past (d ∷ ds) zero past = absurd (omega arith)
meta_past (d ∷ ds) (suc z) past = meta_past ds z (omega arith)

pub meta_here : (ds : List MetaDecl) (z : ℕ) (d : MetaDecl) → z < length ds → d ≡ get_or ds z d → out_at (declared_metas ds) z ≡ ty d.result
meta_here [] z d within e = absurd (omega arith)
meta_here (x ∷ ds) zero d within e = ap (λ (y : MetaDecl). ty y.result) (sym e)
meta_here (x ∷ ds) (suc z) d within e = meta_here ds z d (omega arith) e

-- the type of an application of a meta-variable, and of an abstraction

pub kind_of_meta : (S : Symbols) (M : List Declared) (Γ : List Ty) (t : Term) (z : ℕ) (ts : List Term) → t ≡ Meta z ts → kind S M Γ (tm t) ≡ out_at M z
kind_of_meta S M Γ t z ts e = ap (kind S M Γ) (tm_of_meta t z ts e)

pub kind_of_lam : (S : Symbols) (M : List Declared) (bs now : List (Bor SimpleType)) (k : Bor SimpleType) (u : Tm) (b : Ty) → now ≡ bs ++ k ∷ []
    → b ≡ kind S M (scope now) u → kind S M (scope bs) (lam (ty k.now) u) ≡ ty k.now ⇒ b
kind_of_lam S M bs now k u b pushed is = ap (λ c. ty k.now ⇒ c) (sym (is ∙ ap (λ Γ. kind S M Γ u) (ap scope pushed ∙ scope_push bs k)))
