-- What every function on terms needs: an argument list as trees, its front parts, and the measures of a recursion.
use mathlib.Core.Former.{Count}
use Rattle.std.proofs.Common.{◌≡◌, ℕ, zero, suc, ◌+◌, ◌<◌, ◌≤◌, List, [], ◌∷◌, ◌++◌, length, take, get_or, refl, ap, subst, sym, ◌∙◌, add-one, arith}
use Rattle.std.proofs.Math.Seq.{take-suc, take-length}
use Rattle.wh_terms.specs.Tree.{Tm, meta, lam, app, Tms, none, more}
use Rattle.wh_terms.specs.Measures.{nesting, nestings, BoundNumbersBelow, AllBoundNumbersBelow}
use Rattle.wh_terms.specs.Erase.{tm, row, tms}
use Rattle.wh_terms.specs.declared.term.Term.{Term, Meta, Row_of-Term, end_of-Term, more_of-Term, items-the_row-Term, items_hidden-the_row-Term-0}
use Rattle.wh_terms.specs.declared.term.Term.TheVariants.{Meta'}

-- the arguments of a meta-variable, as trees

row-items : (n : _) (r : Row_of-Term n) → row r ≡ tms (items-the_row-Term n r)
row-items n end_of-Term = refl
row-items n (more_of-Term t rest) = ap (λ ts. more (tm t) ts) (row-items _ rest)

abbrev row_of : Term → (n : Count) × Row_of-Term n
row_of (Meta' z _ r) = (_, r)
row_of _ = (_, end_of-Term)

pub tm_meta : (z : ℕ) (ts : List Term) → tm (Meta z ts) ≡ meta z (tms ts)
tm_meta z ts = ap (λ us. meta z us) (row-items _ (row_of (Meta z ts)).1 ∙ ap tms (items_hidden-the_row-Term-0 ts))

pub tm_of_meta : (t : Term) (z : ℕ) (ts : List Term) → t ≡ Meta z ts → tm t ≡ meta z (tms ts)
tm_of_meta t z ts e = ap tm e ∙ tm_meta z ts

-- lists of trees

-- two lists, one after the other
abbrev pub join : Tms → Tms → Tms
join none us = us
join (more t ts) us = more t (join ts us)

pub tms_append : (xs ys : List Term) → tms (xs ++ ys) ≡ join (tms xs) (tms ys)
tms_append [] ys = refl
tms_append (x ∷ xs) ys = ap (λ ts. more (tm x) ts) (tms_append xs ys)

pub tms_take_next : (xs : List Term) (i : ℕ) (t : Term) → i < length xs → t ≡ get_or xs i t
    → tms (take (i + 1) xs) ≡ join (tms (take i xs)) (more (tm t) none)
tms_take_next xs i t within e =
    rw (add-one, take-suc xs i t within) (tms_append (take i xs) (get_or xs i t ∷ [])
    ∙ ap (λ u. join (tms (take i xs)) (more (tm u) none)) (sym e))

-- a list that is built tree by tree keeps pace with the one that it follows
pub tms_push : (xs ys : List Term) (i : ℕ) (out : List Term) (r t : Term) → tms out ≡ tms (take i xs) → ys ≡ out ++ r ∷ []
    → tm r ≡ tm t → i < length xs → t ≡ get_or xs i t → tms ys ≡ tms (take (i + 1) xs)
tms_push xs ys i out r t same pushed equal within e =
    ap tms pushed ∙ tms_append out (r ∷ []) ∙ ap (λ us. join us (more (tm r) none)) same
    ∙ ap (λ u. join (tms (take i xs)) (more u none)) equal ∙ sym (tms_take_next xs i t within e)

pub tms_take_all : (xs : List Term) → tms (take (length xs) xs) ≡ tms xs
tms_take_all xs = ap tms (take-length xs)

-- the measure of a recursion over terms: a part has less weight than the whole

abbrev mutual
  pub weight : Tm → ℕ
  weight (meta z ts) = 1 + weights ts
  weight (lam a t) = 1 + weight t
  weight (app t u) = 1 + (weight t + weight u)
  weight _ = 0

  pub weights : Tms → ℕ
  weights none = 0
  weights (more t ts) = 1 + (weight t + weights ts)

pub weight_in_meta : (t : Term) (z : ℕ) (ts : List Term) → t ≡ Meta z ts → weights (tms ts) < weight (tm t)
weight_in_meta t z ts e = omega (arith, ap weight (tm_of_meta t z ts e))

weight-get : (xs : List Term) (i : ℕ) (t : Term) → i < length xs → t ≡ get_or xs i t → weight (tm t) < weights (tms xs)
weight-get [] i t within e = absurd (omega arith)
weight-get (x ∷ xs) zero t within e = omega (arith, ap (λ u. weight (tm u)) e)
weight-get (x ∷ xs) (suc i) t within e = omega (arith, weight-get xs i t (omega arith) e)

pub weight_in_item : (ts : List Term) (xs : List Term) (i : ℕ) (t : Term) → xs ≡ ts → i < length xs → t ≡ get_or xs i t
    → weight (tm t) < weights (tms ts)
weight_in_item ts xs i t from within e = omega (arith, weight-get xs i t within e, ap (λ us. weights (tms us)) from)

-- an argument of a meta-variable is nested less deep, and its bound variables are among those of the whole

pub nesting_of_meta : (t : Term) (z : ℕ) (ts : List Term) → t ≡ Meta z ts → nestings (tms ts) < nesting (tm t)
nesting_of_meta t z ts e = omega (arith, ap nesting (tm_of_meta t z ts e))

nesting-get : (xs : List Term) (i : ℕ) (t : Term) → i < length xs → t ≡ get_or xs i t → nesting (tm t) ≤ nestings (tms xs)
nesting-get [] i t within e = absurd (omega arith)
nesting-get (x ∷ xs) zero t within e = omega (arith, ap (λ u. nesting (tm u)) e)
nesting-get (x ∷ xs) (suc i) t within e = omega (arith, nesting-get xs i t (omega arith) e)

pub nesting_of_item : (ts : List Term) (xs : List Term) (i : ℕ) (t : Term) → xs ≡ ts → i < length xs → t ≡ get_or xs i t
    → nesting (tm t) ≤ nestings (tms ts)
nesting_of_item ts xs i t from within e = omega (arith, nesting-get xs i t within e, ap (λ us. nestings (tms us)) from)

pub numbers_of_meta : (n : ℕ) (t : Term) (z : ℕ) (ts : List Term) → t ≡ Meta z ts → BoundNumbersBelow n (tm t) → AllBoundNumbersBelow n (tms ts)
numbers_of_meta n t z ts e below = subst (BoundNumbersBelow n) (tm_of_meta t z ts e) below

numbers-get : (n : ℕ) (xs : List Term) (i : ℕ) (t : Term) → i < length xs → t ≡ get_or xs i t → AllBoundNumbersBelow n (tms xs) → BoundNumbersBelow n (tm t)
numbers-get n [] i t within e below = absurd (omega arith)
numbers-get n (x ∷ xs) zero t within e below = subst (λ u. BoundNumbersBelow n (tm u)) (sym e) below.0
numbers-get n (x ∷ xs) (suc i) t within e below = numbers-get n xs i t (omega arith) e below.1

pub numbers_of_item : (n : ℕ) (ts : List Term) (xs : List Term) (i : ℕ) (t : Term) → xs ≡ ts → i < length xs → t ≡ get_or xs i t
    → AllBoundNumbersBelow n (tms ts) → BoundNumbersBelow n (tm t)
numbers_of_item n ts xs i t from within e below = numbers-get n xs i t within e (subst (λ us. AllBoundNumbersBelow n (tms us)) (sym from) below)
