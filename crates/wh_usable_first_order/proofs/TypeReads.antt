-- What types tell, read off the lists of a program.
use Rattle.std.proofs.Common.{◌≡◌, ℕ, zero, suc, ◌-◌, ◌<◌, ◌≤◌, ◌↔◌, List, take, [], ◌∷◌, length, Some, slice_get, get_or, refl, ap, ap₂, sym, subst, ◌∙◌, arith}
use Rattle.std.proofs.lemmas.Option.{slice_get_within}
use Rattle.std.proofs.lemmas.List.{length-map}
use Rattle.wh_types.specs.Ty.{Ty, sort, ◌⇒◌, arguments}
use Rattle.wh_types.specs.Erase.{ty, tys}
use Rattle.wh_types.specs.declared.simple_type.SimpleType.{SimpleType}
use Rattle.wh_terms.specs.Typing.{Declared}
use Rattle.wh_terms.specs.Erase.{declared_meta, declared_metas}
use Rattle.wh_terms.specs.declared.rule.MetaDecl.{MetaDecl}
use Rattle.wh_hopoly.specs.Evaluation.{type_at}
use Rattle.wh_pairs.proofs.ByPlace.{some_one, remap}
use Rattle.wh_polycheck.proofs.Pushes.{type_there, type_past}
use Rattle.wh_usable_first_order.specs.FirstOrder.{AreSorts, IsNullary}

-- a sort, and such ones behind it

pub sorts_cons : (a : Ty) (Γ : List Ty) → AreSorts (a ∷ Γ) → ((s : ℕ) × (a ≡ sort s)) × AreSorts Γ
sorts_cons (sort s) Γ h = ((s, refl), h)
sorts_cons (a ⇒ b) Γ h = absurd h

pub cons_sorts : (a : Ty) (Γ : List Ty) (s : ℕ) → a ≡ sort s → AreSorts Γ → AreSorts (a ∷ Γ)
cons_sorts a Γ s e h = subst (λ a. AreSorts (a ∷ Γ)) (sym e) h

pub arguments_there : (k a b : Ty) → k ≡ (a ⇒ b) → AreSorts (arguments k) → ((s : ℕ) × (a ≡ sort s)) × AreSorts (arguments b)
arguments_there k a b is h = sorts_cons a (arguments b) (subst (λ k. AreSorts (arguments k)) is h)

pub arguments_if : (k a b : Ty) (s : ℕ) → k ≡ (a ⇒ b) → a ≡ sort s → AreSorts (arguments b) → AreSorts (arguments k)
arguments_if k a b s is e h = subst (λ k. AreSorts (arguments k)) (sym is) (cons_sorts a (arguments b) s e h)

-- the type of a symbol

pub symbol_there : (xs : List SimpleType) (f : ℕ) (k : SimpleType) → f < length xs → k ≡ get_or xs f k → AreSorts (arguments (ty k))
    ↔ AreSorts (arguments (type_at (tys xs) f))
symbol_there xs f k within there =
    let e = type_there xs f k within there in
    (subst (λ k. AreSorts (arguments k)) (sym e), subst (λ k. AreSorts (arguments k)) e)

pub symbol_past : (xs : List SimpleType) (f : ℕ) → length xs ≤ f → AreSorts (arguments (type_at (tys xs) f))
symbol_past xs f past = subst (λ k. AreSorts (arguments k)) (sym (type_past xs f past)) tt

-- meta-variables without arguments

no_types : (ks : List SimpleType) → tys ks ≡ [] → length ks ≡ 0
no_types [] e = refl
no_types (k ∷ ks) e = cc

types_none : (ks : List SimpleType) → length ks ≡ 0 → tys ks ≡ []
types_none [] e = refl
types_none (k ∷ ks) e = absurd (omega (arith, e))

pub nullary_there : (metas : List MetaDecl) (z : ℕ) (d : MetaDecl) → slice_get metas z ≡ Some d → IsNullary (declared_metas metas) z
    → (length d.args ≡ 0) × ((s : ℕ) × (ty d.result ≡ sort s))
nullary_there metas z d at (s, e) =
    let same = some_one (remap declared_meta metas z d at) e in
    (no_types d.args (ap (λ (d : Declared). d.args) same), (s, ap (λ (d : Declared). d.out) same))

abbrev declared : List Ty → Ty → Declared
declared bs b = record { args = bs; out = b }

pub nullary_if : (metas : List MetaDecl) (z : ℕ) (d : MetaDecl) (s : ℕ) → slice_get metas z ≡ Some d → length d.args ≡ 0 → ty d.result ≡ sort s
    → IsNullary (declared_metas metas) z
nullary_if metas z d s at none is =
    (s, remap declared_meta metas z d at ∙ ap Some (ap₂ declared (types_none d.args none) is))

pub nullary_within : (metas : List MetaDecl) (z : ℕ) → length metas ≤ z → IsNullary (declared_metas metas) z → ⊥
nullary_within metas z past (s, e) =
    omega (arith, slice_get_within (declared_metas metas) z (record { args = []; out = sort s }) e, length-map metas declared_meta)

-- the first of them

pub first_there : (k a b : Ty) (n : ℕ) → k ≡ (a ⇒ b) → 0 < n → AreSorts (take n (arguments k))
    → ((s : ℕ) × (a ≡ sort s)) × AreSorts (take (n - 1) (arguments b))
first_there k a b zero is some h = absurd (omega (arith, some))
first_there k a b (suc n) is some h =
    let same : n ≡ suc n - 1 = omega arith in
    let both = sorts_cons a (take n (arguments b)) (subst (λ k. AreSorts (take (suc n) (arguments k))) is h) in
    (both.0, subst (λ m. AreSorts (take m (arguments b))) same both.1)

pub first_if : (k a b : Ty) (n s : ℕ) → k ≡ (a ⇒ b) → a ≡ sort s → AreSorts (take (n - 1) (arguments b)) → AreSorts (take n (arguments k))
first_if k a b zero s is e h = tt
first_if k a b (suc n) s is e h =
    let same : suc n - 1 ≡ n = omega arith in
    subst (λ k. AreSorts (take (suc n) (arguments k))) (sym is)
    (cons_sorts a (take n (arguments b)) s e (subst (λ m. AreSorts (take m (arguments b))) same h))

pub some_number : (n : ℕ) → (n ≡ 0 → ⊥) → 0 < n
some_number zero h = absurd (h refl)
some_number (suc n) h = omega arith

-- those of the type of a symbol

pub first_symbol : (xs : List SimpleType) (f n : ℕ) (k : SimpleType) → f < length xs → k ≡ get_or xs f k → AreSorts (take n (arguments (ty k)))
    ↔ AreSorts (take n (arguments (type_at (tys xs) f)))
first_symbol xs f n k within there =
    let e = type_there xs f k within there in
    (subst (λ k. AreSorts (take n (arguments k))) (sym e), subst (λ k. AreSorts (take n (arguments k))) e)

none_of_none : (n : ℕ) → AreSorts (take n [])
none_of_none zero = tt
none_of_none (suc n) = tt

pub first_past : (xs : List SimpleType) (f n : ℕ) → length xs ≤ f → AreSorts (take n (arguments (type_at (tys xs) f)))
first_past xs f n past = subst (λ k. AreSorts (take n (arguments k))) (sym (type_past xs f past)) (none_of_none n)
