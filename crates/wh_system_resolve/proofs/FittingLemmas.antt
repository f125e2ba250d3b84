-- Types that fit.
use Rattle.std.proofs.Common.{◌≡◌, ℕ, zero, suc, ◌+◌, ◌<◌, ◌≤◌, List, [], ◌∷◌, Option, Some, None, Bool, true, false, not, map, length, drop, get_or, refl, ap, sym, ◌∙◌, arith}
use Rattle.std.specs.Prelude.{◌&&◌}
use Rattle.std.proofs.lemmas.List.{drop_more}
use Rattle.wh_types.specs.Ty.{Ty, ◌⇒◌, same_ty}
use Rattle.wh_types.specs.Erase.{ty, tys}
use Rattle.wh_types.specs.declared.simple_type.SimpleType.{SimpleType}
use Rattle.wh_terms.proofs.TypeTests.{same_ty-self, same_ty-equal}
use Rattle.wh_text.specs.RawTree.{RTms, none, more}
use Rattle.wh_text.specs.Erase.{rtm, rtms}
use Rattle.wh_text.specs.declared.raw.RawTerm.{RawTerm}
use Rattle.wh_system_parts.specs.declared.fault.SystemFault.{SystemFault}
use Rattle.wh_system_parts.specs.declared.fault.SystemFault.TheVariants.{IllTyped}
use Rattle.wh_system_parts.specs.Faults.{first_of, first_fault}
use Rattle.wh_system_parts.specs.Kinds.{takes, are_wanted, kind_of, kinds_of, TypedBinder}
use Rattle.wh_system_parts.specs.Naming.{Scope}
use Rattle.wh_system_resolve.specs.declared.kind.Kind.{Kind}
use Rattle.wh_system_resolve.specs.InScope.{type_of, types_of}
use Rattle.wh_system_resolve.specs.Resolving.{fitting_tests}
use Rattle.wh_system_parts.specs.Tests.{test, term_offset, count_of, wanted_tests}
use Rattle.wh_system_parts.proofs.FaultLemmas.{no_fault_at_test}
use Rattle.wh_system_parts.proofs.RawTerms.{left_next, left_none}

pub same_type-true : (a b : Ty) → a ≡ b → not (same_ty a b) ≡ false
same_type-true a b e = ap not (ap (same_ty a) (sym e) ∙ same_ty-self a)

same_ty-other : (a b : Ty) → (a ≡ b → ⊥) → same_ty a b ≡ false
same_ty-other a b other = go (same_ty a b) refl
  where
    go : (t : Bool) → same_ty a b ≡ t → same_ty a b ≡ false
    go true e = absurd (other (same_ty-equal a b e))
    go false e = e

pub same_type-false : (a b : Ty) → (a ≡ b → ⊥) → not (same_ty a b) ≡ true
same_type-false a b other = ap not (same_ty-other a b other)

-- an application
pub takes_not : (f a d r : Ty) → f ≡ (d ⇒ r) → (d ≡ a → ⊥) → takes (Some f) (Some a) ≡ false
takes_not f a d r e other = ap (λ g. takes (Some g) (Some a)) e ∙ same_ty-other d a other

pub takes_it : (f a d r : Ty) → f ≡ (d ⇒ r) → d ≡ a → takes (Some f) (Some a) ≡ true
takes_it f a d r e same = ap (λ g. takes (Some g) (Some a)) e ∙ ap (same_ty d) (sym same) ∙ same_ty-self d

-- arguments and the types that are wanted, at a place of the lists and at their end
item_at : {X : Type 0} (xs : List X) (i : ℕ) → i < length xs → (x : X) × (x ≡ get_or xs i x)
item_at [] i within = absurd (omega arith)
item_at (x ∷ xs) zero within = (x, refl)
item_at (x ∷ xs) (suc i) within = item_at xs i (omega arith)

map-drop : {X Y : Type 0} (f : X → Y) (xs : List X) (i : ℕ) (x : X) → i < length xs → x ≡ get_or xs i x → map f (drop i xs) ≡ f x ∷ map f (drop (i + 1) xs)
map-drop f xs i x within e = ap (map f) (drop_more xs i x within) ∙ ap (λ y. f y ∷ map f (drop (i + 1) xs)) (sym e)

abbrev pub fitting_left : List Kind → List RawTerm → List SimpleType → ℕ → Option SystemFault
fitting_left gs xs ws i = first_fault (fitting_tests (types_of (drop i gs)) (rtms (drop i xs)) (tys (drop i ws)))

fitting-step : (gs : List Kind) (ws : List SimpleType) (xs : List RawTerm) (i : ℕ) (g : Kind) (w : SimpleType) (x : RawTerm) → i < length gs → i < length ws → i < length xs
    → g ≡ get_or gs i g → w ≡ get_or ws i w → x ≡ get_or xs i x
    → fitting_left gs xs ws i ≡ first_of (not (same_ty (type_of g) (ty w))) (IllTyped (term_offset (rtm x))) (fitting_left gs xs ws (i + 1))
fitting-step gs ws xs i g w x a b c e f h =
    ap (λ ks. first_fault (fitting_tests ks (rtms (drop i xs)) (tys (drop i ws)))) (map-drop type_of gs i g a e)
    ∙ ap (λ ks. first_fault (fitting_tests (type_of g ∷ types_of (drop (i + 1) gs)) (rtms (drop i xs)) ks)) (map-drop ty ws i w b f)
    ∙ ap (λ us. first_fault (fitting_tests (type_of g ∷ types_of (drop (i + 1) gs)) us (ty w ∷ tys (drop (i + 1) ws)))) (left_next xs i x c h)

pub fitting_next : (gs : List Kind) (ws : List SimpleType) (xs : List RawTerm) (i : ℕ) (g : Kind) (w : SimpleType) (all : Option SystemFault) → i < length gs → i < length ws → i < length xs
    → g ≡ get_or gs i g → w ≡ get_or ws i w → type_of g ≡ ty w → all ≡ fitting_left gs xs ws i → all ≡ fitting_left gs xs ws (i + 1)
fitting_next gs ws xs i g w all a b c e f same is =
    let (x, h) = item_at xs i c in
    is ∙ fitting-step gs ws xs i g w x a b c e f h ∙ ap (λ t. first_of t (IllTyped (term_offset (rtm x))) (fitting_left gs xs ws (i + 1))) (same_type-true (type_of g) (ty w) same)

pub fitting_fails : (gs : List Kind) (ws : List SimpleType) (xs : List RawTerm) (i : ℕ) (g : Kind) (w : SimpleType) (x : RawTerm) (at : ℕ) (all : Option SystemFault) → i < length gs → i < length ws → i < length xs
    → g ≡ get_or gs i g → w ≡ get_or ws i w → x ≡ get_or xs i x → at ≡ term_offset (rtm x) → (type_of g ≡ ty w → ⊥) → all ≡ fitting_left gs xs ws i → all ≡ Some (IllTyped at)
fitting_fails gs ws xs i g w x at all a b c e f h place other is =
    is ∙ fitting-step gs ws xs i g w x a b c e f h ∙ ap (λ t. first_of t (IllTyped (term_offset (rtm x))) (fitting_left gs xs ws (i + 1))) (same_type-false (type_of g) (ty w) other)
    ∙ ap (λ p. Some (IllTyped p)) (sym place)

no-terms : (gs ws : List Ty) → first_fault (fitting_tests gs none ws) ≡ None
no-terms [] ws = refl
no-terms (g ∷ gs) ws = refl

pub fitting_end : (gs : List Kind) (ws : List SimpleType) (xs : List RawTerm) (i : ℕ) (all : Option SystemFault) → length xs ≤ i → all ≡ fitting_left gs xs ws i → all ≡ None
fitting_end gs ws xs i all past is =
    is ∙ ap (λ us. first_fault (fitting_tests (types_of (drop i gs)) us (tys (drop i ws)))) (left_none xs i past) ∙ no-terms (types_of (drop i gs)) (tys (drop i ws))

-- the types given are those of the arguments
pub wanted_are : (s : Scope) (bs : List TypedBinder) (ts : RTms) (gs ws : List Ty) → kinds_of s bs ts ≡ map Some gs → wanted_tests s bs ts ws ≡ fitting_tests gs ts ws
wanted_are s bs none [] ws e = refl
wanted_are s bs none (g ∷ gs) ws e = absurd (grind arith)
wanted_are s bs (more t ts) [] ws e = absurd (grind arith)
wanted_are s bs (more t ts) (g ∷ gs) [] e = refl
wanted_are s bs (more t ts) (g ∷ gs) (w ∷ ws) e =
    let first : kind_of s bs t ≡ Some g = grind arith in
    let others : kinds_of s bs ts ≡ map Some gs = grind arith in
    rw first (ap (λ rest. test (not (same_ty g w)) (IllTyped (term_offset t)) ∷ rest) (wanted_are s bs ts gs ws others))

-- all that are wanted are there
not-false : (b : Bool) → not b ≡ false → b ≡ true
not-false true e = refl
not-false false e = absurd (grind arith)

pub fit : (gs ws : List Ty) (ts : RTms) → count_of ts ≡ length gs → length ws ≡ length gs → first_fault (fitting_tests gs ts ws) ≡ None → are_wanted (map Some gs) ws ≡ true
fit [] [] ts a b e = refl
fit [] (w ∷ ws) ts a b e = absurd (omega arith)
fit (g ∷ gs) [] ts a b e = absurd (omega arith)
fit (g ∷ gs) (w ∷ ws) none a b e = absurd (omega arith)
fit (g ∷ gs) (w ∷ ws) (more t ts) a b e =
    let parts = no_fault_at_test (not (same_ty g w)) (IllTyped (term_offset t)) (fitting_tests gs ts ws) e in
    let rest = fit gs ws ts (omega arith) (omega arith) parts.1 in
    ap (λ x. x && are_wanted (map Some gs) ws) (not-false (same_ty g w) parts.0) ∙ rest
