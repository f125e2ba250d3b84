-- Bound variables in a list of arguments.
use Rattle.std.proofs.Common.{◌≡◌, add-one, length-drop, drop-cons, ℕ, zero, suc, ◌+◌, ◌-◌, ◌<◌, List, [], ◌∷◌, length, take, drop, get_or, refl, ap, subst, sym, ◌∙◌, arith}
use Rattle.std.proofs.Math.Seq.{take-length}
use Rattle.wh_terms.specs.Tree.{Tm, bound, free, fun, meta, lam, app, Tms, none, more}
use Rattle.wh_terms.specs.Pattern.{AllBoundBelow, Misses, Distinct}
use Rattle.wh_terms.specs.Erase.{tm, tms}
use Rattle.wh_terms.specs.declared.term.Term.{Term, Bound}
use Rattle.wh_terms.specs.declared.term.Term.TheVariants.{Free, Fun, Meta', Lam', App'}
use Rattle.wh_terms.proofs.TermLemmas.{join, tms_take_next}

-- all are bound below

below-join : (k : ℕ) (ts : Tms) (n : ℕ) → AllBoundBelow k ts → n < k → AllBoundBelow k (join ts (more (bound n) none))
below-join k none n so_far here = (here, tt)
below-join k (more (bound m) ts) n so_far here = (so_far.0, below-join k ts n so_far.1 here)
below-join k (more (free x a) ts) n so_far here = so_far
below-join k (more (fun f) ts) n so_far here = so_far
below-join k (more (meta z us) ts) n so_far here = so_far
below-join k (more (lam a t) ts) n so_far here = so_far
below-join k (more (app t u) ts) n so_far here = so_far

pub below_next : (k : ℕ) (xs : List Term) (i : ℕ) (t : Term) (n : ℕ) → i < length xs → t ≡ get_or xs i t → t ≡ Bound n → n < k
    → AllBoundBelow k (tms (take i xs)) → AllBoundBelow k (tms (take (i + 1) xs))
below_next k xs i t n within e is here so_far =
    let next = tms_take_next xs i t within e ∙ ap (λ u. join (tms (take i xs)) (more (tm u) none)) is in
    subst (AllBoundBelow k) (sym next) (below-join k (tms (take i xs)) n so_far here)

pub below_at : (k : ℕ) (xs : List Term) (i : ℕ) (t : Term) → i < length xs → t ≡ get_or xs i t → AllBoundBelow k (tms xs)
    → (n : ℕ) × (t ≡ Bound n) × (n < k)
below_at k [] i t within e all = absurd (omega arith)
below_at k (Bound n ∷ xs) zero t within e all = (n, e, all.0)
below_at k (Free x a ∷ xs) zero t within e all = absurd all
below_at k (Fun f ∷ xs) zero t within e all = absurd all
below_at k (Meta' z s us ∷ xs) zero t within e all = absurd all
below_at k (Lam' a p u ∷ xs) zero t within e all = absurd all
below_at k (App' p u q v ∷ xs) zero t within e all = absurd all
below_at k (Bound n ∷ xs) (suc i) t within e all = below_at k xs i t (omega arith) e all.1
below_at k (Free x a ∷ xs) (suc i) t within e all = absurd all
below_at k (Fun f ∷ xs) (suc i) t within e all = absurd all
below_at k (Meta' z s us ∷ xs) (suc i) t within e all = absurd all
below_at k (Lam' a p u ∷ xs) (suc i) t within e all = absurd all
below_at k (App' p u q v ∷ xs) (suc i) t within e all = absurd all

-- a variable is not among them

misses-join : (m : ℕ) (ts : Tms) (t : Tm) → Misses m ts → (t ≡ bound m → ⊥) → Misses m (join ts (more t none))
misses-join m none (bound n) so_far other = (λ e. other (ap bound (sym e)), tt)
misses-join m none (free x a) so_far other = tt
misses-join m none (fun f) so_far other = tt
misses-join m none (meta z us) so_far other = tt
misses-join m none (lam a u) so_far other = tt
misses-join m none (app u v) so_far other = tt
misses-join m (more (bound n) ts) t so_far other = (so_far.0, misses-join m ts t so_far.1 other)
misses-join m (more (free x a) ts) t so_far other = misses-join m ts t so_far other
misses-join m (more (fun f) ts) t so_far other = misses-join m ts t so_far other
misses-join m (more (meta z us) ts) t so_far other = misses-join m ts t so_far other
misses-join m (more (lam a u) ts) t so_far other = misses-join m ts t so_far other
misses-join m (more (app u v) ts) t so_far other = misses-join m ts t so_far other

-- a tree that is a bound variable is a `Bound`
bound-of : (t : Term) (n : ℕ) → tm t ≡ bound n → t ≡ Bound n
bound-of (Bound m) n e = let same : m ≡ n = cc in ap Bound same
bound-of (Free x a) n e = absurd (cc)
bound-of (Fun f) n e = absurd (cc)
bound-of (Meta' z s us) n e = absurd (cc)
bound-of (Lam' a p u) n e = absurd (cc)
bound-of (App' p u q v) n e = absurd (cc)

pub misses_next : (m : ℕ) (xs : List Term) (i : ℕ) (t : Term) → i < length xs → t ≡ get_or xs i t → (t ≡ Bound m → ⊥)
    → Misses m (tms (take i xs)) → Misses m (tms (take (i + 1) xs))
misses_next m xs i t within e other so_far =
    subst (Misses m) (sym (tms_take_next xs i t within e)) (misses-join m (tms (take i xs)) (tm t) so_far (λ is. other (bound-of t m is)))

misses-rest : (m : ℕ) (x : Term) (xs : List Term) → Misses m (tms (x ∷ xs)) → Misses m (tms xs)
misses-rest m (Bound n) xs all = all.1
misses-rest m (Free x a) xs all = all
misses-rest m (Fun f) xs all = all
misses-rest m (Meta' z s us) xs all = all
misses-rest m (Lam' a p u) xs all = all
misses-rest m (App' p u q v) xs all = all

pub misses_at : (m : ℕ) (xs : List Term) (i : ℕ) (t : Term) → i < length xs → t ≡ get_or xs i t → Misses m (tms xs) → t ≡ Bound m → ⊥
misses_at m [] i t within e all is = absurd (omega arith)
misses_at m (x ∷ xs) zero t within e all is =
    let first : x ≡ Bound m = cc in
    let here : Misses m (tms (Bound m ∷ xs)) = subst (λ u. Misses m (tms (u ∷ xs))) first all in
    here.0 refl
misses_at m (x ∷ xs) (suc i) t within e all is = misses_at m xs i t (omega arith) e (misses-rest m x xs all) is

-- the variables are distinct

distinct-rest : (x : Term) (xs : List Term) → Distinct (tms (x ∷ xs)) → Distinct (tms xs)
distinct-rest (Bound n) xs all = all.1
distinct-rest (Free x a) xs all = all
distinct-rest (Fun f) xs all = all
distinct-rest (Meta' z s us) xs all = all
distinct-rest (Lam' a p u) xs all = all
distinct-rest (App' p u q v) xs all = all

distinct-drop : (xs : List Term) (i : ℕ) → Distinct (tms xs) → Distinct (tms (drop i xs))
distinct-drop [] zero all = all
distinct-drop [] (suc i) all = all
distinct-drop (x ∷ xs) zero all = all
distinct-drop (x ∷ xs) (suc i) all = distinct-drop xs i (distinct-rest x xs all)

-- one variable in front of the others
distinct-onto : (x : Term) (xs : List Term) → ((n : ℕ) → x ≡ Bound n → Misses n (tms xs)) → Distinct (tms xs) → Distinct (tms (x ∷ xs))
distinct-onto (Bound n) xs first all = (first n refl, all)
distinct-onto (Free x a) xs first all = all
distinct-onto (Fun f) xs first all = all
distinct-onto (Meta' z s us) xs first all = all
distinct-onto (Lam' a p u) xs first all = all
distinct-onto (App' p u q v) xs first all = all

-- what the slice behind a place holds
pub rest_of : (xs : List Term) (n : ℕ) → take (length xs - n) (drop n xs) ≡ drop n xs
rest_of xs n = ap (λ k. take k (drop n xs)) (sym (length-drop n xs)) ∙ take-length (drop n xs)

pub distinct_next : (xs : List Term) (i : ℕ) (t : Term) → i < length xs → t ≡ get_or xs i t
    → ((n : ℕ) → t ≡ Bound n → Misses n (tms (drop (i + 1) xs))) → Distinct (tms (drop (i + 1) xs)) → Distinct (tms (drop i xs))
distinct_next xs i t within e first all =
    subst (λ (us : List Term). Distinct (tms us)) (sym (drop-cons xs i t within ∙ ap (λ u. u ∷ drop (suc i) xs) (sym e)))
    (distinct-onto t (drop (suc i) xs) (rw (← add-one) first) (rw (← add-one) all))

pub distinct_at : (xs : List Term) (i : ℕ) (t : Term) (n : ℕ) → i < length xs → t ≡ get_or xs i t → t ≡ Bound n → Distinct (tms xs)
    → Misses n (tms (drop (i + 1) xs))
distinct_at xs i t n within e is all =
    let here = distinct-drop xs i all in
    let there : Bound n ≡ get_or xs i (Bound n) = subst (λ u. u ≡ get_or xs i u) is e in
    let split : drop i xs ≡ Bound n ∷ drop (suc i) xs = drop-cons xs i (Bound n) within ∙ ap (λ u. u ∷ drop (suc i) xs) (sym there) in
    let both : Distinct (tms (Bound n ∷ drop (suc i) xs)) = subst (λ (us : List Term). Distinct (tms us)) split here in
    rw add-one both.0
