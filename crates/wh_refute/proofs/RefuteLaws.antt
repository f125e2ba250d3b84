-- Entries follow from the clauses before them, so a formula with a list that refutes it has no model; and such a list has no
-- fault.
use Rattle.std.proofs.Common.{◌≡◌, ℕ, zero, suc, ◌<◌, ◌≤◌, ◌⊎◌, inl, inr, Bool, true, false, not, List, [], ◌∷◌, ◌++◌, Option, Some, None, length, get_or, map, take, slice_get, length-append, refl, sym, ◌∙◌, ap, subst, arith}
use Rattle.std.proofs.lemmas.Bool.{cases_eq, cases_lt}
use Rattle.std.proofs.lemmas.Option.{slice_get_within}
use Rattle.std.proofs.lemmas.List.{append_assoc, get_or_append_left}
use Rattle.std.proofs.Math.Seq.{get_or-append_seam}
use Rattle.wh_sat_trail.specs.declared.literal.Literal.{Literal}
use Rattle.wh_sat_trail.specs.declared.entry.Entry.{Entry}
use Rattle.wh_sat_trail.specs.Assignment.{negated}
use Rattle.wh_sat_trail.specs.Member.{member}
use Rattle.wh_refute.specs.Refuting.{IsFalse, IsLeft, Leads, ends, goes, IsGoodEntry, IsRefutation, clauses_before}
use Rattle.wh_refute.specs.RefuteFaults.{IsStuck, two_left, true_already, Strays, names_none, false_too_early, gets_stuck, later, StraysAt}
use Rattle.wh_refute.specs.declared.fault.RefuteFault.TheVariants.{BadLiteral, BadHint, Open, NoEmpty}
use Rattle.wh_refute.specs.Laws.{IsSatisfied, IsModel, RefutationsRefute, RefutationsHaveNoFault}
use Rattle.wh_refute.proofs.Members.{cons_cases, cons_here, cons_later, member_either, member_below, true_is_not_false}

-- the values make the literals of the list true
AllTrue : (ℕ → Bool) → List Literal → Type 0
AllTrue v t = (l : Literal) → member l t ≡ true → v l.variable ≡ l.positive

cases_bool : (a b : Bool) → (a ≡ b) ⊎ (a ≡ not b)
cases_bool true true = inl refl
cases_bool false false = inl refl
cases_bool true false = inr refl
cases_bool false true = inr refl

both_ways : (a b : Bool) → a ≡ b → a ≡ not b → ⊥
both_ways true true e f = absurd (cc)
both_ways false false e f = absurd (cc)
both_ways true false e f = absurd (cc)
both_ways false true e f = absurd (cc)

pub same_literal : (l m : Literal) → (l ≡ m) ⊎ (l ≡ m → ⊥)
same_literal l m = elim (cases_eq l.variable m.variable) [
  | inl v ↦ elim (cases_bool l.positive m.positive) [
    | inl p ↦ inl (ap (λ n. let r : Literal = record { variable = n; positive = l.positive } in r) v
        ∙ ap (λ q. let r : Literal = record { variable = m.variable; positive = q } in r) p)
    | inr q ↦ inr (λ e. both_ways l.positive m.positive (ap (λ (x : Literal). x.positive) e) q)
  ]
  | inr u ↦ inr (λ e. u (ap (λ (x : Literal). x.variable) e))
]

leads_refutes : (v : ℕ → Bool) (clauses : List (List Literal)) (t : List Literal) (hints : List ℕ) → Leads clauses t hints → IsModel v clauses
    → AllTrue v t → ⊥
unfolding AllTrue
leads_refutes v clauses t hints (ends _ k w f) s a =
    let r = s k w in both_ways (v r.0.variable) r.0.positive r.2 (a (negated r.0) (f r.0 r.1))
leads_refutes v clauses t hints (goes _ k l rest w q new more) s a =
    let r = s k w in
    elim (same_literal r.0 l) [
      | inl same ↦ leads_refutes v clauses (t ++ l ∷ []) rest more s (λ x h. elim (member_either x l t h) [
        | inl before ↦ a x before
        | inr is ↦ subst (λ (y : Literal). v y.variable ≡ y.positive) (same ∙ is) r.2
      ])
      | inr other ↦ both_ways (v r.0.variable) r.0.positive r.2 (a (negated r.0) (q.others r.0 r.1 other))
    ]

-- a clause has a true literal, or the negations of all its literals are true
decided : (v : ℕ → Bool) (c : List Literal) → IsSatisfied v c ⊎ AllTrue v (map negated c)
unfolding AllTrue
decided v [] = inr (λ l h. absurd (true_is_not_false false h refl))
decided v (x ∷ c) = elim (cases_bool (v x.variable) x.positive) [
  | inl is ↦ inl (x, cons_here x c, is)
  | inr not_so ↦ elim (decided v c) [
    | inl r ↦ inl (r.0, cons_later r.0 x c r.1, r.2)
    | inr a ↦ inr (λ m h. elim (cons_cases m (negated x) (map negated c) h) [
      | inl same ↦ subst (λ (y : Literal). v y.variable ≡ y.positive) same not_so
      | inr rest ↦ a m rest
    ])
  ]
]

entry_follows : (n : ℕ) (clauses : List (List Literal)) (e : Entry) (v : ℕ → Bool) → IsGoodEntry n clauses e → IsModel v clauses
    → IsSatisfied v e.clause
entry_follows n clauses e v g s = elim (decided v e.clause) [
  | inl p ↦ p
  | inr a ↦ absurd (leads_refutes v clauses (map negated e.clause) e.hints g.leads s a)
]

model_push : (v : ℕ → Bool) (xs : List (List Literal)) (c : List Literal) → IsModel v xs → IsSatisfied v c → IsModel v (xs ++ c ∷ [])
model_push v xs c m s k w = elim (cases_lt k (length xs)) [
  | inl before ↦ subst (IsSatisfied v) (sym (get_or_append_left xs (c ∷ []) [] k before)) (m k before)
  | inr behind ↦ subst (IsSatisfied v)
      (sym (ap (λ i. get_or (xs ++ c ∷ []) i []) (omega (arith, w, behind, length-append xs (c ∷ []))) ∙ get_or-append_seam xs c [] [])) s
]

entry_at : (list : List Entry) (k : ℕ) → k < length list → (e : Entry) × (slice_get list k ≡ Some e)
entry_at [] k w = absurd (omega (arith, w))
entry_at (e ∷ list) zero w = (e, refl)
entry_at (e ∷ list) (suc k) w = entry_at list k (omega (arith, w))

some : Option Entry → List Literal
some (Some e) = e.clause
some None = []

pub one_more : (list : List Entry) (k : ℕ) (e : Entry) → slice_get list k ≡ Some e
    → map (λ (x : Entry). x.clause) (take (suc k) list) ≡ map (λ (x : Entry). x.clause) (take k list) ++ e.clause ∷ []
unfolding some
one_more [] k e q = absurd (omega (arith, slice_get_within [] k e q))
one_more (x ∷ list) zero e q = ap (λ (o : Option Entry). some o ∷ []) q
one_more (x ∷ list) (suc k) e q = ap (λ cs. x.clause ∷ cs) (one_more list k e q)

append_nothing : (xs : List (List Literal)) → xs ++ [] ≡ xs
append_nothing [] = refl
append_nothing (x ∷ xs) = ap (λ ys. x ∷ ys) (append_nothing xs)

all_follow : (n : ℕ) (clauses : List (List Literal)) (list : List Entry) → IsRefutation n clauses list → (v : ℕ → Bool) → IsModel v clauses
    → (k : ℕ) → k ≤ length list → IsModel v (clauses_before clauses list k)
all_follow n clauses list r v s zero w = λ k q. subst (λ xs. IsSatisfied v (get_or xs k [])) (sym (append_nothing clauses))
    (s k (subst (λ xs. k < length xs) (append_nothing clauses) q))
all_follow n clauses list r v s (suc k) w =
    let e = entry_at list k (omega (arith, w)) in
    let xs = map (λ (x : Entry). x.clause) (take k list) in
    let before : IsModel v (clauses ++ xs) = all_follow n clauses list r v s k (omega (arith, w)) in
    let c : IsSatisfied v e.0.clause = entry_follows n (clauses ++ xs) e.0 v (r.good k e.0 (omega (arith, w)) e.1) before in
    subst (λ ys. IsModel v (clauses ++ ys)) (sym (one_more list k e.0 e.1))
    (subst (IsModel v) (append_assoc clauses xs (e.0.clause ∷ [])) (model_push v (clauses ++ xs) e.0.clause before c))

nothing_satisfied : (v : ℕ → Bool) (c : List Literal) → c ≡ [] → IsSatisfied v c → ⊥
nothing_satisfied v c e s = true_is_not_false false (subst (λ x. member s.0 x ≡ true) e s.1) refl

pub refutations_refute_law : RefutationsRefute
refutations_refute_law n clauses list r v s =
    let k = r.empty.0 in
    let e = entry_at list k (omega (arith, r.empty.1)) in
    let before = all_follow n clauses list r v s k (omega (arith, r.empty.1)) in
    nothing_satisfied v e.0.clause (r.empty.2 e.0 e.1)
    (entry_follows n (clauses_before clauses list k) e.0 v (r.good k e.0 (omega (arith, r.empty.1)) e.1) before)

-- one literal alone is left, so no two are, and none that is true
left_not_stuck : (t c : List Literal) (l : Literal) → IsLeft t c l → member l t ≡ false → IsStuck t c → ⊥
left_not_stuck t c l left new (two_left a b in_a in_b differ open_a open_b) = elim (same_literal a l) [
  | inl is ↦ true_is_not_false _ (left.others b in_b (λ e. differ (is ∙ sym e))) open_b
  | inr other ↦ true_is_not_false _ (left.others a in_a other) open_a
]
left_not_stuck t c l left new (true_already m also already) = elim (same_literal m l) [
  | inl is ↦ true_is_not_false _ (subst (λ x. member x t ≡ true) is already) new
  | inr other ↦ true_is_not_false _ (left.others m also.in_clause other) also.possible
]

false_not_stuck : (t c : List Literal) → IsFalse t c → IsStuck t c → ⊥
false_not_stuck t c f (two_left a b in_a in_b differ open_a open_b) = true_is_not_false _ (f a in_a) open_a
false_not_stuck t c f (true_already m also already) = true_is_not_false _ (f m also.in_clause) also.possible

false_not_left : (t c : List Literal) (l : Literal) → IsFalse t c → IsLeft t c l → ⊥
false_not_left t c l f left = true_is_not_false _ (f l left.in_clause) left.possible

left_is_one : (t c : List Literal) (l m : Literal) → IsLeft t c l → IsLeft t c m → m ≡ l
left_is_one t c l m left also = elim (same_literal m l) [
  | inl is ↦ is
  | inr other ↦ absurd (true_is_not_false _ (left.others m also.in_clause other) also.possible)
]

leads_not_strays : (clauses : List (List Literal)) (at : ℕ) (t : List Literal) (hints : List ℕ) (f : Option ℕ) → Leads clauses t hints
    → Strays clauses at t hints f → ⊥
leads_not_strays clauses at t hints f (ends _ k w is) (names_none _ _ _ _ over) = omega (arith, w, over)
leads_not_strays clauses at t hints f (ends _ k w is) (gets_stuck _ _ _ _ _ stuck) = false_not_stuck t _ is stuck
leads_not_strays clauses at t hints f (ends _ k w is) (later _ _ _ l _ _ _ left _ _) = false_not_left t _ l is left
leads_not_strays clauses at t hints f (goes _ k l rest w left new more) (names_none _ _ _ _ over) = omega (arith, w, over)
leads_not_strays clauses at t hints f (goes _ k l rest w left new more) (false_too_early _ _ _ _ _ _ is) = false_not_left t _ l is left
leads_not_strays clauses at t hints f (goes _ k l rest w left new more) (gets_stuck _ _ _ _ _ stuck) = left_not_stuck t _ l left new stuck
leads_not_strays clauses at t hints f (goes _ k l rest w left new more) (later _ _ _ m _ _ _ also _ strays) =
    leads_not_strays clauses (suc at) (t ++ l ∷ []) rest f more
    (subst (λ x. Strays clauses (suc at) (t ++ x ∷ []) rest f) (left_is_one t _ l m left also) strays)

no_strays_at : (n : ℕ) (clauses : List (List Literal)) (list : List Entry) → IsRefutation n clauses list → (k : ℕ) (f : Option ℕ)
    → StraysAt n clauses list k f → ⊥
no_strays_at n clauses list r k f h =
    let g = r.good k h.entry (slice_get_within list k h.entry h.is) h.is in
    leads_not_strays (clauses_before clauses list k) 0 (map negated h.entry.clause) h.entry.hints f g.leads h.strays

pub refutations_have_no_fault_law : RefutationsHaveNoFault
refutations_have_no_fault_law n clauses list r (BadLiteral k) (good, e, is, (l, here, over)) =
    let g = r.good k e (slice_get_within list k e is) is in omega (arith, over, member_below n e.clause l g.below here)
refutations_have_no_fault_law n clauses list r (BadHint k h) f = no_strays_at n clauses list r k (Some h) f
refutations_have_no_fault_law n clauses list r (Open k) f = no_strays_at n clauses list r k None f
refutations_have_no_fault_law n clauses list r NoEmpty f = f.1 r.empty
