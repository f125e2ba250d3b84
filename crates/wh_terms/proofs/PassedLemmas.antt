-- Walking down a path: the binders that are passed, and what stands at the end.
use Rattle.std.proofs.Common.{◌≡◌, ◌≢◌, ℕ, zero, suc, ◌+◌, ◌-◌, ◌<◌, ◌≤◌, List, [], ◌∷◌, ◌++◌, length, get_or, drop, Option, Some, None, ◌⊎◌, inl, inr, subst, refl, ap, sym, ◌∙◌, arith, length-append}
use Rattle.std.proofs.lemmas.List.{at_drop_more, drop_all}
use Rattle.std.specs.Borrow.{Bor}
use Rattle.wh_types.specs.Erase.{ty}
use Rattle.wh_types.specs.declared.simple_type.SimpleType.{SimpleType}
use Rattle.wh_types.specs.Ty.{Ty}
use Rattle.wh_terms.specs.Tree.{Tm, bound, free, fun, meta, lam, app}
use Rattle.wh_terms.specs.declared.term.Term.{Term, Meta}
use Rattle.wh_terms.specs.declared.term.Term.TheVariants.{Bound, Free, Fun}
use Rattle.wh_terms.specs.Erase.{tm}
use Rattle.wh_terms.proofs.TermLemmas.{tm_of_meta}
use Rattle.wh_terms.specs.Places.{opened_part_at}
use Rattle.wh_terms.specs.Substitution.{act, up, up_free, cons}
use Rattle.wh_terms.specs.Kinds.{kinds_of}
use Rattle.wh_terms.specs.Under.{ups, raised, passed}
use Rattle.wh_terms.proofs.ActLaws.{opened-act, act-id}
use Rattle.wh_terms.proofs.UnderLemmas.{ups_high, raised_bound, raised_free}

-- one binder more is passed
passed-push : (x : ℕ) (kinds : List Ty) (a : Ty) (σ : ℕ → Tm) → passed x (kinds ++ a ∷ []) σ ≡ cons (free (x + length kinds) a) (passed x kinds σ)
unfolding passed
passed-push x [] a σ = ap (λ n. cons (free n a) σ) (omega arith)
passed-push x (b ∷ kinds) a σ =
    passed-push (x + 1) kinds a (cons (free x b) σ) ∙ ap (λ n. cons (free n a) (passed (x + 1) kinds (cons (free x b) σ))) (omega arith)

-- beyond the passed binders stands what stood there
passed-far : (x : ℕ) (kinds : List Ty) (σ : ℕ → Tm) (i j : ℕ) → i ≡ j + length kinds → passed x kinds σ i ≡ σ j
unfolding passed cons
passed-far x [] σ i j is = ap σ (omega arith)
passed-far x (a ∷ kinds) σ i j is = passed-far (x + 1) kinds (cons (free x a) σ) i (suc j) (omega arith)

-- the variables of the passed binders: the i-th from the inside is the j-th from the outside
passed-near : (x : ℕ) (kinds : List Ty) (σ : ℕ → Tm) (i j : ℕ) (a : Ty) → i + j + 1 ≡ length kinds → a ≡ get_or kinds j a
    → passed x kinds σ i ≡ free (x + j) a
unfolding passed cons
passed-near x [] σ i j a sum is = absurd (omega arith)
passed-near x (b ∷ kinds) σ i zero a sum is =
    passed-far (x + 1) kinds (cons (free x b) σ) i 0 (omega arith) ∙ ap (λ n. free n b) (omega arith) ∙ ap (free (x + 0)) (sym is)
passed-near x (b ∷ kinds) σ i (suc j) a sum is = passed-near (x + 1) kinds (cons (free x b) σ) i j a (omega arith) is ∙ ap (λ n. free n a) (omega arith)

pub length-kinds_of : (kinds : List (Bor SimpleType)) → length (kinds_of kinds) ≡ length kinds
length-kinds_of [] = refl
length-kinds_of (a ∷ kinds) = ap suc (length-kinds_of kinds)

kinds_of-get : (kinds : List (Bor SimpleType)) (i : ℕ) (a : Bor SimpleType) → i < length kinds → a ≡ get_or kinds i a
    → ty a.now ≡ get_or (kinds_of kinds) i (ty a.now)
kinds_of-get [] i a within is = absurd (omega arith)
kinds_of-get (b ∷ kinds) zero a within is = ap (λ c. ty c.now) is
kinds_of-get (b ∷ kinds) (suc i) a within is = kinds_of-get kinds i a (omega arith) is

kinds_of-push : (kinds : List (Bor SimpleType)) (a : Bor SimpleType) → kinds_of (kinds ++ a ∷ []) ≡ kinds_of kinds ++ ty a.now ∷ []
kinds_of-push [] a = refl
kinds_of-push (b ∷ kinds) a = ap (λ rest. ty b.now ∷ rest) (kinds_of-push kinds a)

pub passed_here : (x k i j : ℕ) (kinds : List (Bor SimpleType)) (a : Bor SimpleType) → k ≤ i → (i - k) + j + 1 ≡ length kinds → a ≡ get_or kinds j a
    → ups k (passed x (kinds_of kinds) bound) i ≡ free (x + j) (ty a.now)
passed_here x k i j kinds a high sum is =
    ups_high k (passed x (kinds_of kinds) bound) i (i - k) (omega arith)
    ∙ ap (raised k) (passed-near x (kinds_of kinds) bound (i - k) j (ty a.now) (omega (arith, length-kinds_of kinds)) (kinds_of-get kinds j a (omega arith) is))
    ∙ raised_free k (x + j) (ty a.now)

pub passed_beyond : (x k i : ℕ) (kinds : List (Bor SimpleType)) → k + length kinds ≤ i
    → ups k (passed x (kinds_of kinds) bound) i ≡ bound (i - length kinds)
passed_beyond x k i kinds high =
    ups_high k (passed x (kinds_of kinds) bound) i (i - k) (omega arith)
    ∙ ap (raised k) (passed-far x (kinds_of kinds) bound (i - k) (i - k - length kinds) (omega (arith, length-kinds_of kinds)))
    ∙ raised_bound k (i - k - length kinds) ∙ ap bound (omega arith)

-- what stands under the passed binders, with their free variables
abbrev pub under : ℕ → List (Bor SimpleType) → Tm → Tm
under x kinds t = act (passed x (kinds_of kinds) bound) free t

-- the place that the rest of the path leads to, from below the passed binders
abbrev pub from_here : ℕ → List ℕ → ℕ → List (Bor SimpleType) → Tm → Option Tm
from_here x path i kinds t = opened_part_at (x + length kinds) (drop i path) (under x kinds t)

next-step : (path : List ℕ) (i d : ℕ) (x : ℕ) (t : Tm) → i < length path → d ≡ get_or path i 0
    → opened_part_at x (drop i path) t ≡ opened_part_at x (d ∷ drop (i + 1) path) t
next-step path i d x t within is = at_drop_more (λ rest. opened_part_at x rest t) path i 0 within ∙ ap (λ e. opened_part_at x (e ∷ drop (i + 1) path) t) (sym is)

step-at : (path : List ℕ) (i d e : ℕ) (x : ℕ) (t : Tm) → i < length path → d ≡ get_or path i 0 → d ≡ e
    → opened_part_at x (drop i path) t ≡ opened_part_at x (e ∷ drop (i + 1) path) t
step-at path i d e x t within is value = next-step path i d x t within is ∙ ap (λ n. opened_part_at x (n ∷ drop (i + 1) path) t) value

pub down_lam : (x : ℕ) (path : List ℕ) (i d : ℕ) (kinds more : List (Bor SimpleType)) (a : Bor SimpleType) (t u : Tm)
    → i < length path → d ≡ get_or path i 0 → d ≡ 0 → more ≡ kinds ++ a ∷ [] → u ≡ lam (ty a.now) t
    → from_here x path i kinds u ≡ from_here x path (i + 1) more t
unfolding act
down_lam x path i d kinds more a t u within is zeroth pushed at =
    let σ : ℕ → Tm = passed x (kinds_of kinds) bound in
    let y : ℕ = x + length kinds in
    let ends : ((x + length more) ≡ y + 1) = omega (arith, ap length pushed, length-append kinds (a ∷ [])) in
    ap (from_here x path i kinds) at
    ∙ step-at path i d 0 y (act σ free (lam (ty a.now) t)) within is zeroth
    ∙ ap (opened_part_at (y + 1) (drop (i + 1) path)) (opened-act (free y (ty a.now)) σ free t)
    ∙ ap (λ τ. opened_part_at (y + 1) (drop (i + 1) path) (act τ free t))
    (ap (λ n. cons (free (x + n) (ty a.now)) σ) (sym (length-kinds_of kinds)) ∙ sym (passed-push x (kinds_of kinds) (ty a.now) bound) ∙ ap (λ ks. passed x ks bound) (sym (kinds_of-push kinds a) ∙ ap kinds_of (sym pushed)))
    ∙ ap (λ n. opened_part_at n (drop (i + 1) path) (under x more t)) (sym ends)

pub down_function : (x : ℕ) (path : List ℕ) (i d : ℕ) (kinds : List (Bor SimpleType)) (t u v : Tm) → i < length path → d ≡ get_or path i 0 → d ≡ 0 → v ≡ app t u
    → from_here x path i kinds v ≡ from_here x path (i + 1) kinds t
unfolding act
down_function x path i d kinds t u v within is zeroth at =
    ap (from_here x path i kinds) at ∙ step-at path i d 0 (x + length kinds) (under x kinds (app t u)) within is zeroth

pub down_argument : (x : ℕ) (path : List ℕ) (i d : ℕ) (kinds : List (Bor SimpleType)) (t u v : Tm) → i < length path → d ≡ get_or path i 0 → d ≡ 1 → v ≡ app t u
    → from_here x path i kinds v ≡ from_here x path (i + 1) kinds u
unfolding act
down_argument x path i d kinds t u v within is first at =
    ap (from_here x path i kinds) at ∙ step-at path i d 1 (x + length kinds) (under x kinds (app t u)) within is first

-- the places that are not there
pub no_body : (x : ℕ) (path : List ℕ) (i d : ℕ) (kinds : List (Bor SimpleType)) (a : Ty) (t v : Tm) → i < length path → d ≡ get_or path i 0 → d ≢ 0 → v ≡ lam a t
    → from_here x path i kinds v ≡ None
unfolding act
no_body x path i d kinds a t v within is other at =
    ap (from_here x path i kinds) at ∙ next-step path i d (x + length kinds) (under x kinds (lam a t)) within is ∙ nothing d other
  where
    nothing : (n : ℕ) → n ≢ 0 → opened_part_at (x + length kinds) (n ∷ drop (i + 1) path) (lam a (act (up (passed x (kinds_of kinds) bound)) (up_free free) t)) ≡ None
    nothing zero h = absurd (h refl)
    nothing (suc zero) h = refl
    nothing (suc (suc n)) h = refl

pub no_part : (x : ℕ) (path : List ℕ) (i d : ℕ) (kinds : List (Bor SimpleType)) (t u v : Tm) → i < length path → d ≡ get_or path i 0 → d ≢ 0 → d ≢ 1 → v ≡ app t u
    → from_here x path i kinds v ≡ None
unfolding act
no_part x path i d kinds t u v within is other another at =
    ap (from_here x path i kinds) at ∙ next-step path i d (x + length kinds) (under x kinds (app t u)) within is ∙ nothing d other another
  where
    nothing : (n : ℕ) → n ≢ 0 → n ≢ 1 → opened_part_at (x + length kinds) (n ∷ drop (i + 1) path) (app (under x kinds t) (under x kinds u)) ≡ None
    nothing zero h k = absurd (h refl)
    nothing (suc zero) h k = absurd (k refl)
    nothing (suc (suc n)) h k = refl

-- a tree that has no children
abbrev pub IsLeaf : Tm → Type 0
IsLeaf (bound i) = Unit {0}
IsLeaf (free x a) = Unit {0}
IsLeaf (fun f) = Unit {0}
IsLeaf (meta z ts) = Unit {0}
IsLeaf _ = ⊥

pub childless : (t : Term) → ((i : ℕ) × (t ≡ Bound i)) ⊎ (((x : ℕ) × (a : SimpleType) × (t ≡ Free x a)) ⊎ (((f : ℕ) × (t ≡ Fun f)) ⊎ ((z : ℕ) × (ts : List Term) × (t ≡ Meta z ts))))
    → IsLeaf (tm t)
childless t (inl (i, is)) = subst (λ s. IsLeaf (tm s)) (sym is) tt
childless t (inr (inl (x, a, is))) = subst (λ s. IsLeaf (tm s)) (sym is) tt
childless t (inr (inr (inl (f, is)))) = subst (λ s. IsLeaf (tm s)) (sym is) tt
childless t (inr (inr (inr (z, ts, is)))) = subst (λ s. IsLeaf s) (sym (tm_of_meta t z ts is)) tt

leaf-none : (x d : ℕ) (rest : List ℕ) (t : Tm) → IsLeaf t → opened_part_at x (d ∷ rest) t ≡ None
leaf-none x zero rest (bound i) l = refl
leaf-none x (suc zero) rest (bound i) l = refl
leaf-none x (suc (suc d)) rest (bound i) l = refl
leaf-none x zero rest (free y a) l = refl
leaf-none x (suc zero) rest (free y a) l = refl
leaf-none x (suc (suc d)) rest (free y a) l = refl
leaf-none x zero rest (fun f) l = refl
leaf-none x (suc zero) rest (fun f) l = refl
leaf-none x (suc (suc d)) rest (fun f) l = refl
leaf-none x zero rest (meta z ts) l = refl
leaf-none x (suc zero) rest (meta z ts) l = refl
leaf-none x (suc (suc d)) rest (meta z ts) l = refl
leaf-none x d rest (lam a t) l = absurd l
leaf-none x d rest (app t u) l = absurd l

leaf-cons : (x : ℕ) (a : Ty) (σ : ℕ → Tm) → ((i : ℕ) → IsLeaf (σ i)) → (i : ℕ) → IsLeaf (cons (free x a) σ i)
unfolding cons
leaf-cons x a σ h zero = tt
leaf-cons x a σ h (suc i) = h i

leaf-passed : (x : ℕ) (kinds : List Ty) (σ : ℕ → Tm) → ((i : ℕ) → IsLeaf (σ i)) → (i : ℕ) → IsLeaf (passed x kinds σ i)
unfolding passed
leaf-passed x [] σ h i = h i
leaf-passed x (a ∷ kinds) σ h i = leaf-passed (x + 1) kinds (cons (free x a) σ) (leaf-cons x a σ h) i

leaf-under : (x : ℕ) (kinds : List (Bor SimpleType)) (t : Tm) → IsLeaf t → IsLeaf (under x kinds t)
unfolding act
leaf-under x kinds (bound i) l = leaf-passed x (kinds_of kinds) bound (λ i. tt) i
leaf-under x kinds (free y a) l = tt
leaf-under x kinds (fun f) l = tt
leaf-under x kinds (meta z ts) l = tt
leaf-under x kinds (lam a t) l = absurd l
leaf-under x kinds (app t u) l = absurd l

pub no_child : (x : ℕ) (path : List ℕ) (i d : ℕ) (kinds : List (Bor SimpleType)) (t : Tm) → i < length path → d ≡ get_or path i 0 → IsLeaf t
    → from_here x path i kinds t ≡ None
no_child x path i d kinds t within is leaf =
    next-step path i d (x + length kinds) (under x kinds t) within is
    ∙ leaf-none (x + length kinds) d (drop (i + 1) path) (under x kinds t) (leaf-under x kinds t leaf)

-- before the first step, and after the last
pub from_start : (x : ℕ) (path : List ℕ) (t : Tm) → from_here x path 0 [] t ≡ opened_part_at x path t
unfolding passed
from_start x path t = ap (λ n. opened_part_at n path (act bound free t)) (omega arith) ∙ ap (opened_part_at x path) (act-id t)

pub at_end : (x : ℕ) (path : List ℕ) (i : ℕ) (kinds : List (Bor SimpleType)) (t : Tm) → length path ≤ i → from_here x path i kinds t ≡ Some (under x kinds t)
at_end x path i kinds t ended = ap (λ rest. opened_part_at (x + length kinds) rest (under x kinds t)) (drop_all i path ended)
