-- The parts of a candidate.
use Rattle.std.proofs.Common.{◌≡◌, ℕ, zero, suc, ◌+◌, ◌-◌, ◌<◌, ◌≤◌, List, [], ◌∷◌, ◌++◌, length, map, max, take, drop, reverse, get_or, Some, ◌⊎◌, inl, inr, refl, ap, ap₂, sym, ◌∙◌, arith, append_assoc}
use Rattle.std.specs.Prelude.{slice_get}
use Rattle.std.specs.Borrow.{Bor}
use Rattle.std.proofs.lemmas.Bool.{cases_lt}
use Rattle.std.proofs.lemmas.List.{map-append, reverse-reverse, drop_all, length-take, drop-take}
use Rattle.wh_types.specs.Ty.{Ty, sort}
use Rattle.wh_types.specs.Erase.{ty, tys}
use Rattle.wh_types.specs.declared.simple_type.SimpleType.{SimpleType}
use Rattle.wh_terms.specs.Tree.{Tm, meta, none}
use Rattle.wh_terms.specs.Erase.{tm}
use Rattle.wh_terms.specs.Kinds.{kinds_of}
use Rattle.wh_terms.specs.Scope.{scope}
use Rattle.wh_terms.specs.declared.term.Term.{Term}
use Rattle.wh_pairs.specs.Candidates.{numbered_from}

numbered-push : (x n : ℕ) → numbered_from x (suc n) ≡ numbered_from x n ++ meta (x + n) none ∷ []
numbered-push x zero = let e : x ≡ x + zero = omega arith in ap (λ k. meta k none ∷ []) e
numbered-push x (suc n) =
    let e : (x + 1) + n ≡ x + suc n = omega arith in
    ap (λ l. meta x none ∷ l) (numbered-push (x + 1) n ∙ ap (λ k. numbered_from (x + 1) n ++ meta k none ∷ []) e)

-- one more fresh meta-variable
pub numbered_next : (first number : ℕ) (before : List Tm) (old new : List Term) (r : Term) → first ≤ number → map tm old ≡ before ++ numbered_from first (number - first)
    → new ≡ old ++ r ∷ [] → tm r ≡ meta number none → map tm new ≡ before ++ numbered_from first (number + 1 - first)
numbered_next first number before old new r low so_far pushed is =
    let n : (number + 1 - first) ≡ suc (number - first) = omega arith in
    let at : first + (number - first) ≡ number = omega arith in
    ap (map tm) pushed ∙ map-append tm old (r ∷ []) ∙ ap₂ (λ l t. l ++ t ∷ []) so_far (is ∙ ap (λ k. meta k none) (sym at)) ∙ append_assoc before _ _
    ∙ ap (λ l. before ++ l) (sym (numbered-push first (number - first))) ∙ ap (λ k. before ++ numbered_from first k) (sym n)

kinds-push : (kinds : List (Bor SimpleType)) (a : Bor SimpleType) → kinds_of (kinds ++ a ∷ []) ≡ kinds_of kinds ++ ty a.now ∷ []
kinds-push [] a = refl
kinds-push (b ∷ kinds) a = ap (λ rest. ty b.now ∷ rest) (kinds-push kinds a)

-- the types of the binders, the outermost first
pub kinds-scope : (bs : List (Bor SimpleType)) → reverse (scope bs) ≡ kinds_of bs
kinds-scope bs = reverse-reverse (map (λ kind. ty kind.now) bs) ∙ same bs
  where
    same : (bs : List (Bor SimpleType)) → map (λ kind. ty kind.now) bs ≡ kinds_of bs
    same [] = refl
    same (b ∷ bs) = ap (λ l. ty b.now ∷ l) (same bs)

pub map-kinds : (bs : List (Bor SimpleType)) {A : Type 0} (f : Ty → A) → map f (kinds_of bs) ≡ map (λ a. f (ty a.now)) bs
map-kinds [] f = refl
map-kinds (b ∷ bs) f = ap (λ l. f (ty b.now) ∷ l) (map-kinds bs f)

take-slice : (kinds : List Ty) (n : ℕ) (a : Ty) → slice_get kinds n ≡ Some a → take (suc n) kinds ≡ take n kinds ++ a ∷ []
take-slice [] n a e = absurd (cc)
take-slice (b ∷ kinds) zero a e = let same : b ≡ a = cc in ap (λ c. c ∷ []) same
take-slice (b ∷ kinds) (suc n) a e = ap (λ l. b ∷ l) (take-slice kinds n a e)

slice-drop : (kinds : List Ty) (g n : ℕ) → slice_get (drop g kinds) n ≡ slice_get kinds (g + n)
slice-drop kinds zero n = let e : n ≡ zero + n = omega arith in ap (slice_get kinds) e
slice-drop [] (suc g) n = refl
slice-drop (b ∷ kinds) (suc g) n = let e : suc (g + n) ≡ suc g + n = omega arith in slice-drop kinds g n ∙ ap (slice_get (b ∷ kinds)) e

-- one more argument that is missing
pub missing_next : (kinds before : List Ty) (given place : ℕ) (ks now : List (Bor SimpleType)) (k : Bor SimpleType) → given ≤ place → slice_get kinds place ≡ Some (ty k.now)
    → kinds_of ks ≡ before ++ take (place - given) (drop given kinds) → now ≡ ks ++ k ∷ [] → kinds_of now ≡ before ++ take (place + 1 - given) (drop given kinds)
missing_next kinds before given place ks now k low there so_far pushed =
    let n : (place + 1 - given) ≡ suc (place - given) = omega arith in
    let at : given + (place - given) ≡ place = omega arith in
    ap kinds_of pushed ∙ kinds-push ks k ∙ ap (λ l. l ++ ty k.now ∷ []) so_far ∙ append_assoc before _ _
    ∙ ap (λ l. before ++ l) (sym (take-slice (drop given kinds) (place - given) (ty k.now) (slice-drop kinds given (place - given) ∙ ap (slice_get kinds) at ∙ there)))
    ∙ ap (λ m. before ++ take m (drop given kinds)) (sym n)

-- all arguments that are missing
pub missing_all : (kinds : List Ty) (given place need : ℕ) → given ≤ place → need ≤ place → place ≤ max given need
    → take (place - given) (drop given kinds) ≡ drop given (take need kinds)
missing_all kinds given place need low high ends = go (cases_lt need given)
  where
    go : (need < given) ⊎ (given ≤ need) → take (place - given) (drop given kinds) ≡ drop given (take need kinds)
    go (inr most) =
        let n : (place - given) ≡ need - given = omega arith in
        let m : given + (need - given) ≡ need = omega arith in
        ap (λ k. take k (drop given kinds)) n ∙ sym (drop-take given (need - given) kinds) ∙ ap (λ k. drop given (take k kinds)) m
    go (inl few) =
        let n : (place - given) ≡ 0 = omega arith in
        ap (λ k. take k (drop given kinds)) n ∙ sym (drop_all given (take need kinds) (omega (arith, length-take need kinds)))

pub tys_get : (xs : List SimpleType) (i : ℕ) (x : SimpleType) → i < length xs → x ≡ get_or xs i x → ty x ≡ get_or (tys xs) i (sort 0)
tys_get [] i x inside is = absurd (omega arith)
tys_get (y ∷ xs) zero x inside is = ap ty is
tys_get (y ∷ xs) (suc i) x inside is = tys_get xs i x (omega arith) is
