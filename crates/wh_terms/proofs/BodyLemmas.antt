-- The bodies of a meta-substitution, and what stands for a parameter below binders.
use Rattle.std.proofs.Common.{◌≡◌, ◌≢◌, ℕ, zero, suc, ◌+◌, ◌-◌, ◌<◌, ◌≤◌, List, [], ◌∷◌, length, get_or, drop, take, subst, refl, ap, sym, ◌∙◌, arith, eq-eqb, ne_eqb}
use Rattle.std.specs.Prelude.{if◌then◌else◌, ◌==◌, Contains, All}
use Rattle.std.proofs.lemmas.List.{at_drop_more}
use Rattle.std.proofs.lemmas.List.Elements.{All-more, All-contains, Contains-get_or}
use Rattle.wh_terms.specs.Tree.{Tm, bound, Tms, none, more, count}
use Rattle.wh_terms.specs.Erase.{tm, tms}
use Rattle.wh_terms.specs.Entries.{bodies, Lists}
use Rattle.wh_terms.specs.Substitution.{cons}
use Rattle.wh_terms.specs.Value.{parameters}
use Rattle.wh_terms.specs.Under.{ups, raised, moved}
use Rattle.wh_terms.specs.declared.term.Term.{Term}
use Rattle.wh_terms.specs.declared.subst.MetaBody.{MetaBody}
use Rattle.wh_terms.proofs.UnderLemmas.{ups_high, raised_bound}

pub count-tms : (xs : List Term) → count (tms xs) ≡ length xs
count-tms [] = refl
count-tms (x ∷ xs) = ap (λ n. 1 + n) (count-tms xs) ∙ omega arith

-- beyond the parameters stands what stood there
pub parameters-far : (ts : Tms) (σ : ℕ → Tm) (i j : ℕ) → i ≡ j + count ts → parameters ts σ i ≡ σ j
unfolding parameters cons
parameters-far none σ i j is = ap σ (omega arith)
parameters-far (more t ts) σ i j is = parameters-far ts (cons t σ) i (suc j) (omega arith)

-- the i-th parameter from the inside is the j-th from the outside
pub parameters-near : (xs : List Term) (σ : ℕ → Tm) (i j : ℕ) (t : Term) → i + j + 1 ≡ length xs → t ≡ get_or xs j t
    → parameters (tms xs) σ i ≡ tm t
unfolding parameters cons
parameters-near [] σ i j t sum is = absurd (omega arith)
parameters-near (x ∷ xs) σ i zero t sum is =
    parameters-far (tms xs) (cons (tm x) σ) i 0 (omega (arith, count-tms xs)) ∙ ap tm (sym is)
parameters-near (x ∷ xs) σ i (suc j) t sum is = parameters-near xs (cons (tm x) σ) i j t (omega arith) is

pub parameter_here : (k d i j : ℕ) (xs : List Term) (t : Term) → d ≤ i → (i - d) + j + 1 ≡ length xs → t ≡ get_or xs j t
    → ups d (parameters (tms xs) (moved k)) i ≡ raised d (tm t)
parameter_here k d i j xs t high sum is =
    ups_high d (parameters (tms xs) (moved k)) i (i - d) (omega arith) ∙ ap (raised d) (parameters-near xs (moved k) (i - d) j t sum is)

pub parameter_beyond : (k d i : ℕ) (xs : List Term) → d + length xs ≤ i → ups d (parameters (tms xs) (moved k)) i ≡ bound (i - length xs + k)
unfolding moved
parameter_beyond k d i xs high =
    ups_high d (parameters (tms xs) (moved k)) i (i - d) (omega arith)
    ∙ ap (raised d) (parameters-far (tms xs) (moved k) (i - d) (i - d - length xs) (omega (arith, count-tms xs)))
    ∙ raised_bound d (i - d - length xs + k) ∙ ap bound (omega arith)

-- the search for a body

at-drop : (bs : List MetaBody) (i : ℕ) (b : MetaBody) (z : ℕ) → i < length bs → b ≡ get_or bs i b
    → bodies (drop i bs) z ≡ (if b.meta == z then record { arity = b.arity; tree = tm b.body } else bodies (drop (i + 1) bs) z)
at-drop bs i b z within is =
    at_drop_more (λ rest. bodies rest z) bs i b within
    ∙ ap (λ c. if c.meta == z then record { arity = c.arity; tree = tm c.body } else bodies (drop (i + 1) bs) z) (sym is)

-- none of the bodies passed is for z, so what follows decides
pub bodies_passed : (bs : List MetaBody) (i : ℕ) (b : MetaBody) (z : ℕ) → i < length bs → b ≡ get_or bs i b → b.meta ≢ z
    → bodies (drop i bs) z ≡ bodies (drop (i + 1) bs) z
bodies_passed bs i b z within is other =
    at-drop bs i b z within is
    ∙ ap (λ t. if t then record { arity = b.arity; tree = tm b.body } else bodies (drop (i + 1) bs) z) (ne_eqb b.meta z other)

pub bodies_found : (bs : List MetaBody) (i : ℕ) (b : MetaBody) (z : ℕ) → i < length bs → b ≡ get_or bs i b → b.meta ≡ z
    → bodies (drop i bs) z ≡ record { arity = b.arity; tree = tm b.body }
bodies_found bs i b z within is same =
    at-drop bs i b z within is
    ∙ ap (λ t. if t then record { arity = b.arity; tree = tm b.body } else bodies (drop (i + 1) bs) z) (eq-eqb b.meta z same)

pub listed_here : (bs : List MetaBody) (i : ℕ) (b : MetaBody) (z : ℕ) → i < length bs → b ≡ get_or bs i b → b.meta ≡ z → Lists bs z
listed_here bs i b z within is same = (b, subst (Contains bs) (sym is) (Contains-get_or bs i b within), same)

-- no body of the list is for z
abbrev pub IsForAnother : ℕ → MetaBody → Type 0
IsForAnother z b = b.meta ≢ z

pub not_listed : (bs : List MetaBody) (z : ℕ) → All (IsForAnother z) bs → Lists bs z → ⊥
not_listed bs z others (b, contains, same) = All-contains (IsForAnother z) bs b others contains same

pub others_more : (bs : List MetaBody) (i : ℕ) (b : MetaBody) (z : ℕ) → i < length bs → b ≡ get_or bs i b → All (IsForAnother z) (take i bs) → b.meta ≢ z
    → All (IsForAnother z) (take (i + 1) bs)
others_more bs i b z within is others other = All-more (IsForAnother z) bs i b within others (subst (IsForAnother z) is other)
