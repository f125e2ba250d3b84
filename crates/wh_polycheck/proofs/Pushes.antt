-- Lists that are made element by element, and types that are made from the last argument on.
use Rattle.std.proofs.Common.{◌≡◌, ◌<◌, ◌≤◌, ◌+◌, ◌-◌, ℕ, zero, suc, List, [], ◌∷◌, ◌++◌, length, map, take, drop, get_or, refl, ap, ap₂, sym, ◌∙◌, add-one, arith}
use Rattle.std.proofs.Math.Seq.{take-suc, drop-cons}
use Rattle.std.proofs.lemmas.List.{map-append}
use Rattle.wh_types.specs.Ty.{Ty, sort, ◌⇒◌, arguments}
use Rattle.wh_types.specs.Erase.{ty, tys}
use Rattle.wh_types.specs.declared.simple_type.SimpleType.{SimpleType}
use Rattle.wh_terms.specs.Erase.{declared_metas}
use Rattle.wh_terms.specs.declared.rule.MetaDecl.{MetaDecl}
use Rattle.wh_hopoly.specs.Evaluation.{type_at}
use Rattle.wh_polycheck.specs.Sides.{arrows, types_of_metas}

-- a list that keeps pace with another one
pub mapped_push : {A B C : Type 0} (f : A → C) (g : B → C) (out longer : List A) (xs : List B) (i : ℕ) (r : A) (x : B)
    → map f out ≡ map g (take i xs) → longer ≡ out ++ r ∷ [] → f r ≡ g x → i < length xs → x ≡ get_or xs i x
    → map f longer ≡ map g (take (i + 1) xs)
mapped_push f g out longer xs i r x same pushed equal within there =
    ap (map f) pushed ∙ map-append f out (r ∷ []) ∙ ap₂ (λ l c. l ++ c ∷ []) same equal
    ∙ sym (rw (add-one, take-suc xs i x within) (map-append g (take i xs) (get_or xs i x ∷ [])
    ∙ ap (λ y. map g (take i xs) ++ g y ∷ []) (sym there)))

-- the type of a meta-variable
abbrev pub meta_type : MetaDecl → Ty
meta_type d = arrows (tys d.args) (ty d.result)

pub types_are : (ds : List MetaDecl) → types_of_metas (declared_metas ds) ≡ map meta_type ds
types_are [] = refl
types_are (d ∷ ds) = ap (λ l. meta_type d ∷ l) (types_are ds)

-- one argument more, from the last one on
pub arrows_next : (xs : List SimpleType) (i j : ℕ) (x : SimpleType) (before after b : Ty) → before ≡ arrows (tys (drop i xs)) b
    → after ≡ (ty x ⇒ before) → i ≡ j + 1 → j < length xs → x ≡ get_or xs j x → after ≡ arrows (tys (drop j xs)) b
arrows_next xs i j x before after b same made next within there =
    made ∙ ap (λ c. ty x ⇒ c) (same ∙ ap (λ k. arrows (tys (drop k xs)) b) (next ∙ add-one j))
    ∙ ap (λ y. ty y ⇒ arrows (tys (drop (suc j) xs)) b) there
    ∙ sym (ap (λ l. arrows (tys l) b) (drop-cons xs j x within))

-- the type of a symbol, and past the last one a sort
pub type_there : (xs : List SimpleType) (i : ℕ) (x : SimpleType) → i < length xs → x ≡ get_or xs i x → type_at (tys xs) i ≡ ty x
type_there [] i x within there = absurd (omega arith)
type_there (y ∷ xs) zero x within there = ap ty (sym there)
type_there (y ∷ xs) (suc i) x within there = type_there xs i x (omega arith) there

pub type_past : (xs : List SimpleType) (i : ℕ) → length xs ≤ i → type_at (tys xs) i ≡ sort 0
type_past [] i past = refl
type_past (y ∷ xs) zero past = absurd (omega arith)
type_past (y ∷ xs) (suc i) past = type_past xs i (omega arith)

pub none_taken : (n : ℕ) (b : Ty) → arrows (take n []) b ≡ b
none_taken zero b = refl
none_taken (suc n) b = refl

pub one_taken : (n : ℕ) (a b c : Ty) → 0 < n → arrows (take n (a ∷ arguments b)) c ≡ (a ⇒ arrows (take (n - 1) (arguments b)) c)
one_taken zero a b c some = absurd (omega arith)
one_taken (suc n) a b c some = let e : n ≡ suc n - 1 = omega arith in ap (λ m. a ⇒ arrows (take m (arguments b)) c) e
