-- Lists of types: of the arguments that a type takes, of typed spines, and of computable terms.
use Rattle.std.proofs.Common.{◌≡◌, ℕ, zero, suc, List, [], ◌∷◌, ◌++◌, length, take, drop, refl, ap, subst, arith}
use Rattle.wh_types.specs.Ty.{Ty, sort, ◌⇒◌, arguments, result_sort, SortsBelow}
use Rattle.wh_terms.specs.Tree.{Tm, app, tms_of, spine}
use Rattle.wh_terms.specs.Typing.{Symbols, Declared, Typed, typed_app, AllTyped, typed_none, typed_more}
use Rattle.wh_terms.specs.StepOver.{StepOver}
use Rattle.wh_order_extended.specs.Kinds.{arrows}
use Rattle.wh_step_laws.specs.RootRelations.{IsRoot}
use Rattle.wh_step_laws.specs.Computable.{Computable, ComputableList}
use Rattle.wh_step_laws.proofs.Fundamental.{candidate, computable-takes, takes-computable}
use Rattle.wh_step_laws.proofs.SystemComputable.{computable-typed}

-- a type is made of its arguments and its result
pub arrows-arguments : (a : Ty) → a ≡ arrows (arguments a) (sort (result_sort a))
arrows-arguments (sort s) = refl
arrows-arguments (a ⇒ b) = ap (λ c. a ⇒ c) (arrows-arguments b)

pub arguments-arrows : (cs : List Ty) (b : Ty) → arguments (arrows cs b) ≡ cs ++ arguments b
arguments-arrows [] b = refl
arguments-arrows (c ∷ cs) b = ap (λ l. c ∷ l) (arguments-arrows cs b)

pub result-arrows : (cs : List Ty) (b : Ty) → result_sort (arrows cs b) ≡ result_sort b
result-arrows [] b = refl
result-arrows (c ∷ cs) b = result-arrows cs b

pub arrows-append : (cs ds : List Ty) (b : Ty) → arrows (cs ++ ds) b ≡ arrows cs (arrows ds b)
arrows-append [] ds b = refl
arrows-append (c ∷ cs) ds b = ap (λ a. c ⇒ a) (arrows-append cs ds b)

-- what is left of a type after its first n arguments
abbrev pub after_arguments : ℕ → Ty → Ty
after_arguments n a = arrows (drop n (arguments a)) (sort (result_sort a))

-- a type is made of its first n arguments and what is left after them
pub arrows-split : (n : ℕ) (a : Ty) → a ≡ arrows (take n (arguments a)) (after_arguments n a)
arrows-split zero a = arrows-arguments a
arrows-split (suc n) (sort s) = refl
arrows-split (suc n) (a ⇒ b) = ap (λ c. a ⇒ c) (arrows-split n b)

arrow_domain : {a b c d : Ty} → (a ⇒ b) ≡ (c ⇒ d) → a ≡ c
arrow_domain e = cc

arrow_codomain : {a b c d : Ty} → (a ⇒ b) ≡ (c ⇒ d) → b ≡ d
arrow_codomain e = cc

-- two types are equal where as many first arguments are, and what is left
pub arrows_one : (cs ds : List Ty) (a b : Ty) → length cs ≡ length ds → arrows cs a ≡ arrows ds b → (cs ≡ ds) × (a ≡ b)
arrows_one [] [] a b n e = (refl, e)
arrows_one [] (d ∷ ds) a b n e = absurd (omega arith)
arrows_one (c ∷ cs) [] a b n e = absurd (omega arith)
arrows_one (c ∷ cs) (d ∷ ds) a b n e =
    let domain : c ≡ d = arrow_domain e in
    let rest = arrows_one cs ds a b (omega arith) (arrow_codomain e) in
    (let f : cs ≡ ds = rest.0 in cc (domain, f), rest.1)

-- the sorts of the parts are sorts of the whole
pub known_after : (n : ℕ) (cs : List Ty) (b : Ty) → SortsBelow n (arrows cs b) → SortsBelow n b
known_after n [] b known = known
known_after n (c ∷ cs) b known = known_after n cs b known.1

-- the number of typed trees is that of their types
pub typed_length : {S : Symbols} {M : List Declared} {Γ : List Ty} (ts : List Tm) (cs : List Ty) → AllTyped S M Γ (tms_of ts) cs
    → length ts ≡ length cs
typed_length [] [] typed_none = refl
typed_length [] (c ∷ cs) p = elim p [ ]
typed_length (t ∷ ts) [] p = elim p [ ]
typed_length (t ∷ ts) (c ∷ cs) (typed_more p ps) = ap suc (typed_length ts cs ps)

-- a typed spine has a head that takes arguments, and these arguments
unfoldable pub typed_spine-arguments : {S : Symbols} {M : List Declared} {Γ : List Ty} {b : Ty} (h : Tm) (ts : List Tm) → Typed S M Γ (spine h ts) b
    → (cs : List Ty) × Typed S M Γ h (arrows cs b) × AllTyped S M Γ (tms_of ts) cs
typed_spine-arguments h [] p = ([], p, typed_none)
typed_spine-arguments {S = S} {M = M} {Γ = Γ} {b = b} h (t ∷ ts) p =
    let (cs, q, qs) = typed_spine-arguments (app h t) ts p in
    first cs q refl qs
  where
    first : (cs : List Ty) {a : Ty} → Typed S M Γ (app h t) a → a ≡ arrows cs b → AllTyped S M Γ (tms_of ts) cs
        → (ds : List Ty) × Typed S M Γ h (arrows ds b) × AllTyped S M Γ (tms_of (t ∷ ts)) ds
    first cs (typed_app {a = c} q r) e qs = (c ∷ cs, subst (λ a. Typed S M Γ h (c ⇒ a)) e q, typed_more r qs)

pub typed_spine : {S : Symbols} {M : List Declared} {Γ : List Ty} {b : Ty} (h : Tm) (ts : List Tm) (cs : List Ty) → Typed S M Γ h (arrows cs b)
    → AllTyped S M Γ (tms_of ts) cs → Typed S M Γ (spine h ts) b
typed_spine h [] [] p typed_none = p
typed_spine h [] (c ∷ cs) p q = elim q [ ]
typed_spine h (t ∷ ts) [] p q = elim q [ ]
typed_spine h (t ∷ ts) (c ∷ cs) p (typed_more q qs) = typed_spine (app h t) ts cs (typed_app p q) qs

-- what takes computable arguments one after another takes them all
pub computable-spine : (S : Symbols) (rank : ℕ → ℕ) (R : Tm → Tm → Type 0) (cs : List Ty) (b : Ty) (t : Tm) (ts : List Tm)
    → Computable S rank R (arrows cs b) t → ComputableList S rank R cs ts → Computable S rank R b (spine t ts)
computable-spine S rank R [] b t [] c h = c
computable-spine S rank R [] b t (u ∷ us) c h = absurd h
computable-spine S rank R (a ∷ cs) b t [] c h = absurd h
computable-spine S rank R (a ∷ cs) b t (u ∷ us) c h = computable-spine S rank R cs b (app t u) us ((computable-takes S rank R a (arrows cs b) t c).1 u h.1) h.2

-- and the other way round
pub spine-computable : {S : Symbols} {R : Tm → Tm → Type 0} → IsRoot S R → (rank : ℕ → ℕ) (cs : List Ty) (b : Ty) (t : Tm)
    → SortsBelow S.sorts (arrows cs b) → Typed S [] [] t (arrows cs b)
    → ((ts : List Tm) → ComputableList S rank (StepOver R) cs ts → Computable S rank (StepOver R) b (spine t ts))
    → Computable S rank (StepOver R) (arrows cs b) t
spine-computable root rank [] b t known p h = h [] tt
spine-computable {S = S} {R = R} root rank (c ∷ cs) b t known p h =
    takes-computable S rank (StepOver R) c (arrows cs b) t (
      p,
      λ u q. spine-computable root rank cs b (app t u) known.1 (typed_app p ((candidate root rank c known.0).typed u q)) (λ ts k. h (u ∷ ts) (known.0, q, k)),
    )

pub list-append : (S : Symbols) (rank : ℕ → ℕ) (R : Tm → Tm → Type 0) (cs ds : List Ty) (ts us : List Tm) → ComputableList S rank R cs ts
    → ComputableList S rank R ds us → ComputableList S rank R (cs ++ ds) (ts ++ us)
list-append S rank R [] ds [] us h k = k
list-append S rank R [] ds (t ∷ ts) us h k = absurd h
list-append S rank R (c ∷ cs) ds [] us h k = absurd h
list-append S rank R (c ∷ cs) ds (t ∷ ts) us h k = (h.0, h.1, list-append S rank R cs ds ts us h.2 k)

-- the first terms of a computable list, and those behind them
pub list-split : (S : Symbols) (rank : ℕ → ℕ) (R : Tm → Tm → Type 0) (cs : List Ty) (ts us : List Tm) → ComputableList S rank R cs (ts ++ us)
    → ComputableList S rank R (take (length ts) cs) ts × ComputableList S rank R (drop (length ts) cs) us
list-split S rank R cs [] us h = (tt, h)
list-split S rank R [] (t ∷ ts) us h = absurd h
list-split S rank R (c ∷ cs) (t ∷ ts) us h = let (k, l) = list-split S rank R cs ts us h.2 in ((h.0, h.1, k), l)

pub list-length : (S : Symbols) (rank : ℕ → ℕ) (R : Tm → Tm → Type 0) (cs : List Ty) (ts : List Tm) → ComputableList S rank R cs ts
    → length ts ≡ length cs
list-length S rank R [] [] h = refl
list-length S rank R [] (t ∷ ts) h = absurd h
list-length S rank R (c ∷ cs) [] h = absurd h
list-length S rank R (c ∷ cs) (t ∷ ts) h = ap suc (list-length S rank R cs ts h.2)

pub list-typed : (S : Symbols) (rank : ℕ → ℕ) (R : Tm → Tm → Type 0) (cs : List Ty) (ts : List Tm) → ComputableList S rank R cs ts
    → AllTyped S [] [] (tms_of ts) cs
list-typed S rank R [] [] h = typed_none
list-typed S rank R [] (t ∷ ts) h = absurd h
list-typed S rank R (c ∷ cs) [] h = absurd h
list-typed S rank R (c ∷ cs) (t ∷ ts) h = typed_more (computable-typed S rank R c t h.1) (list-typed S rank R cs ts h.2)
