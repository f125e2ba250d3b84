-- The calls in the parts of a right side.
use Rattle.std.proofs.Common.{◌≡◌, ℕ, zero, suc, ◌+◌, ◌<◌, ◌≤◌, List, [], ◌∷◌, ◌++◌, length, take, get_or, refl, ap, ap₂, sym, subst, ◌∙◌, arith, append_assoc, append-nil}
use Rattle.std.specs.Borrow.{Bor}
use Rattle.std.proofs.lemmas.List.{map-append, take_more, length-take-le}
use Rattle.wh_types.specs.Ty.{Ty}
use Rattle.wh_terms.specs.Tree.{Tm, bound, free, fun, meta, lam, app, Tms, none, more, head, tms_of, count}
use Rattle.wh_terms.specs.Erase.{tm, tms}
use Rattle.wh_terms.specs.Rules.{RewriteRule}
use Rattle.wh_terms.specs.declared.term.Term.{Term}
use Rattle.wh_terms.proofs.TermLemmas.{join, tms_take_next, weight, weights}
use Rattle.wh_terms.proofs.SameLemmas.{count_tms}
use Rattle.wh_pairs.specs.PairData.{Within}
use Rattle.wh_pairs.specs.Spines.{spine_arguments}
use Rattle.wh_pairs.specs.Conditions.{with_condition}
use Rattle.wh_pairs.specs.Calls.{Call, calls, calls_within}
use Rattle.wh_pairs_calls.specs.CallsEach.{calls_each}
use Rattle.wh_pairs.specs.Known.{SymbolsBelow, AllSymbolsBelow}
use Rattle.wh_pairs_calls.specs.Views.{trees}

pub each-append : (rules : List RewriteRule) (cs : List Within) (Γ : List Ty) (ts us : List Tm)
    → calls_each rules cs Γ (ts ++ us) ≡ calls_each rules cs Γ ts ++ calls_each rules cs Γ us
each-append rules cs Γ [] us = refl
each-append rules cs Γ (t ∷ ts) us = ap (λ l. calls rules cs Γ t [] ++ l) (each-append rules cs Γ ts us) ∙ sym (append_assoc (calls rules cs Γ t []) _ _)

each-one : (rules : List RewriteRule) (cs : List Within) (Γ : List Ty) (t : Tm) → calls_each rules cs Γ (t ∷ []) ≡ calls rules cs Γ t []
each-one rules cs Γ t = append-nil (calls rules cs Γ t [])

-- the calls in a spine: those of its head, before its arguments, and those in its arguments
calls-spine : (rules : List RewriteRule) (cs : List Within) (Γ : List Ty) (t : Tm) (qs : List Tm)
    → calls rules cs Γ t qs ≡ calls rules cs Γ (head t) (spine_arguments t ++ qs) ++ calls_each rules cs Γ (spine_arguments t)
calls-spine rules cs Γ (bound i) qs = refl
calls-spine rules cs Γ (free x a) qs = refl
calls-spine rules cs Γ (fun f) qs = sym (append-nil _)
calls-spine rules cs Γ (meta z ts) qs = sym (append-nil _)
calls-spine rules cs Γ (lam a t) qs = sym (append-nil _)
calls-spine rules cs Γ (app t u) qs =
    ap (λ l. l ++ calls rules cs Γ u []) (calls-spine rules cs Γ t (u ∷ qs))
    ∙ append_assoc (calls rules cs Γ (head t) (spine_arguments t ++ u ∷ qs)) (calls_each rules cs Γ (spine_arguments t)) (calls rules cs Γ u [])
    ∙ ap₂ (λ k l. calls rules cs Γ (head t) k ++ l) (sym (append_assoc (spine_arguments t) (u ∷ []) qs))
    (ap (λ l. calls_each rules cs Γ (spine_arguments t) ++ l) (sym (each-one rules cs Γ u)) ∙ sym (each-append rules cs Γ (spine_arguments t) (u ∷ [])))

pub calls_of_spine : (rules : List RewriteRule) (cs : List Within) (Γ : List Ty) (t : Tm)
    → calls rules cs Γ t [] ≡ calls rules cs Γ (head t) (spine_arguments t) ++ calls_each rules cs Γ (spine_arguments t)
calls_of_spine rules cs Γ t =
    calls-spine rules cs Γ t [] ∙ ap (λ qs. calls rules cs Γ (head t) qs ++ calls_each rules cs Γ (spine_arguments t)) (append-nil (spine_arguments t))

-- the symbols of a spine are in its head and its arguments
pub symbols_of_head : (n : ℕ) (t : Tm) → SymbolsBelow n t → SymbolsBelow n (head t)
symbols_of_head n (bound i) below = tt
symbols_of_head n (free x a) below = tt
symbols_of_head n (fun f) below = below
symbols_of_head n (meta z ts) below = below
symbols_of_head n (lam a t) below = below
symbols_of_head n (app t u) below = symbols_of_head n t below.0

symbols-push : (n : ℕ) (ts : List Tm) (u : Tm) → AllSymbolsBelow n (tms_of ts) → SymbolsBelow n u → AllSymbolsBelow n (tms_of (ts ++ u ∷ []))
symbols-push n [] u below here = (here, tt)
symbols-push n (t ∷ ts) u below here = (below.0, symbols-push n ts u below.1 here)

pub symbols_of_arguments : (n : ℕ) (t : Tm) → SymbolsBelow n t → AllSymbolsBelow n (tms_of (spine_arguments t))
symbols_of_arguments n (bound i) below = tt
symbols_of_arguments n (free x a) below = tt
symbols_of_arguments n (fun f) below = tt
symbols_of_arguments n (meta z ts) below = tt
symbols_of_arguments n (lam a t) below = tt
symbols_of_arguments n (app t u) below = symbols-push n (spine_arguments t) u (symbols_of_arguments n t below.0) below.1

-- an argument of a spine
pub symbols_of_argument : (n : ℕ) (xs : List (Bor Term)) (i : ℕ) (x : Bor Term) → i < length xs → x ≡ get_or xs i x → AllSymbolsBelow n (tms_of (trees xs)) → SymbolsBelow n (tm x.now)
symbols_of_argument n [] i x inside is below = absurd (omega arith)
symbols_of_argument n (y ∷ xs) zero x inside is below = subst (λ z. SymbolsBelow n (tm z.now)) (sym is) below.0
symbols_of_argument n (y ∷ xs) (suc i) x inside is below = symbols_of_argument n xs i x (omega arith) is below.1

pub weight_of_argument : (xs : List (Bor Term)) (i : ℕ) (x : Bor Term) → i < length xs → x ≡ get_or xs i x → weight (tm x.now) + 1 ≤ weights (tms_of (trees xs))
weight_of_argument [] i x inside is = absurd (omega arith)
weight_of_argument (y ∷ xs) zero x inside is = omega (arith, ap (λ z. weight (tm z.now)) is)
weight_of_argument (y ∷ xs) (suc i) x inside is = omega (arith, weight_of_argument xs i x (omega arith) is)

pub each_next : (rules : List RewriteRule) (cs : List Within) (Γ : List Ty) (xs : List (Bor Term)) (i : ℕ) (x : Bor Term) (before so_far now : List Call)
    → so_far ≡ before ++ calls_each rules cs Γ (trees (take i xs)) → now ≡ so_far ++ calls rules cs Γ (tm x.now) [] → i < length xs → x ≡ get_or xs i x
    → now ≡ before ++ calls_each rules cs Γ (trees (take (i + 1) xs))
each_next rules cs Γ xs i x before so_far now e f inside is =
    f ∙ ap (λ l. l ++ calls rules cs Γ (tm x.now) []) e
    ∙ append_assoc before (calls_each rules cs Γ (trees (take i xs))) (calls rules cs Γ (tm x.now) [])
    ∙ ap (λ l. before ++ (calls_each rules cs Γ (trees (take i xs)) ++ l)) (sym (each-one rules cs Γ (tm x.now)))
    ∙ ap (λ l. before ++ l) (sym (each-append rules cs Γ (trees (take i xs)) (tm x.now ∷ [])))
    ∙ ap (λ y. before ++ calls_each rules cs Γ (trees (take i xs) ++ tm y.now ∷ [])) is
    ∙ ap (λ l. before ++ calls_each rules cs Γ l) (sym (ap trees (take_more xs i x inside) ∙ map-append (λ t. tm t.now) (take i xs) (get_or xs i x ∷ [])))

-- an argument of a meta-variable
pub symbols_of_item : (n : ℕ) (xs : List Term) (i : ℕ) (x : Term) → i < length xs → x ≡ get_or xs i x → AllSymbolsBelow n (tms xs) → SymbolsBelow n (tm x)
symbols_of_item n [] i x inside is below = absurd (omega arith)
symbols_of_item n (y ∷ xs) zero x inside is below = subst (λ z. SymbolsBelow n (tm z)) (sym is) below.0
symbols_of_item n (y ∷ xs) (suc i) x inside is below = symbols_of_item n xs i x (omega arith) is below.1

within-join : (rules : List RewriteRule) (cs : List Within) (Γ : List Ty) (z k : ℕ) (ts : Tms) (t : Tm)
    → calls_within rules cs Γ z k (join ts (more t none)) ≡ calls_within rules cs Γ z k ts ++ calls rules (with_condition (record { meta = z; place = k + count ts }) cs) Γ t []
within-join rules cs Γ z k none t = append-nil _ ∙ ap (λ n. calls rules (with_condition (record { meta = z; place = n }) cs) Γ t []) (omega arith)
within-join rules cs Γ z k (more u ts) t =
    ap (λ l. calls rules (with_condition (record { meta = z; place = k }) cs) Γ u [] ++ l)
    (within-join rules cs Γ z (k + 1) ts t ∙ ap (λ n. calls_within rules cs Γ z (k + 1) ts ++ calls rules (with_condition (record { meta = z; place = n }) cs) Γ t []) (omega arith))
    ∙ sym (append_assoc (calls rules (with_condition (record { meta = z; place = k }) cs) Γ u []) _ _)

pub within_next : (rules : List RewriteRule) (cs : List Within) (Γ : List Ty) (z : ℕ) (xs : List Term) (i p : ℕ) (x : Term) (ds : List Within) (before so_far now : List Call)
    → so_far ≡ before ++ calls_within rules cs Γ z 1 (tms (take i xs)) → p ≡ i + 1 → ds ≡ with_condition (record { meta = z; place = p }) cs → now ≡ so_far ++ calls rules ds Γ (tm x) []
    → i < length xs → x ≡ get_or xs i x → now ≡ before ++ calls_within rules cs Γ z 1 (tms (take (i + 1) xs))
within_next rules cs Γ z xs i p x ds before so_far now e place d f inside is =
    let counted : 1 + count (tms (take i xs)) ≡ p = omega (arith, count_tms (take i xs), length-take-le i xs (omega arith)) in
    f ∙ ap₂ (λ l es. l ++ calls rules es Γ (tm x) []) e (d ∙ ap (λ n. with_condition (record { meta = z; place = n }) cs) (sym counted))
    ∙ append_assoc before (calls_within rules cs Γ z 1 (tms (take i xs))) _
    ∙ ap (λ l. before ++ l) (sym (within-join rules cs Γ z 1 (tms (take i xs)) (tm x)))
    ∙ ap (λ l. before ++ calls_within rules cs Γ z 1 l) (sym (tms_take_next xs i x inside is))
