use Rattle.std.proofs.Common.{◌≡◌, ◌≢◌, ℕ, ◌+◌, ◌-◌, ◌<◌, ◌≤◌, suc, Bool, true, false, cond, List, [], ◌∷◌, ◌++◌, length, get_or, take, drop, set, eqb, refl, sym, ◌∙◌, ap, subst, ◌⊎◌, inl, inr, arith}
use Rattle.std.specs.List.{swap_remove}
use Rattle.std.proofs.lemmas.List.{take-take, take-set, drop_all, length-take, length-set, length_push, get_or_default, get_or-set_same, get_or-set_other}
use Rattle.std.proofs.lemmas.List.Sums.{sum_by-swap_remove, sum_by-take-drop, sum_by-drop_more, sum_by-cons}
use Rattle.std.proofs.lemmas.Bool.{cases_eq}
use Rattle.wh_sat_trail.specs.declared.literal.Literal.{Literal}
use Rattle.wh_sat_trail.specs.declared.watch.Stop.{Stop}
use Rattle.wh_sat_trail.specs.declared.watch.Pair.{Pair}
use Rattle.wh_sat_trail.specs.Assignment.{Holds, Fails}
use Rattle.wh_sat_trail.specs.Code.{code_of}
use Rattle.wh_sat_trail.specs.Watch.{Safe, Guard, Guarded, AllSafe, Turn, Pending, count_of, done_of, no_stop, no_pair, pair}
use Rattle.wh_sat_trail.specs.Look.{Looks}
use Rattle.wh_sat_trail.specs.declared.look.Look.TheVariants as look
use Rattle.wh_sat_trail.specs.Propagation.{IsClosed}
use Rattle.wh_sat_trail.proofs.Looking.{cases_literal}
use Rattle.wh_sat_trail.proofs.Watching.{safe_assign, safe_longer, safe_move, safe_swap, safe_true, safe_turn, safe_first, safe_quiet, turn_fails}
use Rattle.wh_sat_trail.proofs.Guarding.{is_none, member_place}

count_split : (j i : ℕ) (xs : List ℕ) → count_of j (take i xs) + count_of j (drop i xs) ≡ count_of j xs
count_split j i xs = sum_by-take-drop (λ x. cond (eqb x j) 1 0) xs i

count_rest : (j i : ℕ) (xs : List ℕ) → i < length xs → count_of j (drop i xs) ≡ cond (eqb (get_or xs i 0) j) 1 0 + count_of j (drop (i + 1) xs)
count_rest j i xs w = sum_by-drop_more (λ x. cond (eqb x j) 1 0) xs i 0 w

front_swap_remove : (xs : List ℕ) (i d : ℕ) → i < length xs → take i (swap_remove xs i d) ≡ take i xs
front_swap_remove xs i d w = take-take i (length xs - 1) (set xs i (get_or xs (length xs - 1) d)) (omega (arith, w)) ∙ take-set xs i (get_or xs (length xs - 1) d)

-- behind the place of a removed entry stands what stood there but that entry
count_removed : (j i d : ℕ) (xs : List ℕ) → i < length xs → get_or xs i d ≢ j → count_of j (drop i (swap_remove xs i d)) ≡ count_of j (drop i xs)
count_removed j i d xs w u =
    let f = front_swap_remove xs i d w in
    let a = count_split j i (swap_remove xs i d) in
    let b : count_of j (take i (swap_remove xs i d)) ≡ count_of j (take i xs) = ap (count_of j) f in
    let s = sum_by-swap_remove (λ x. cond (eqb x j) 1 0) xs i d w in
    omega (arith, a, b, s, count_split j i xs, is_none j (get_or xs i d) u)

pub length-swap_remove : (xs : List ℕ) (i d : ℕ) → i < length xs → length (swap_remove xs i d) + 1 ≡ length xs
length-swap_remove xs i d w = omega (arith, w, length-take (length xs - 1) (set xs i (get_or xs (length xs - 1) d)), length-set xs i (get_or xs (length xs - 1) d))

-- where neither watch is a, the clause is safe one literal further
pub other_safe : (t : List Literal) (stops : List Stop) (head : ℕ) (lists : List (List ℕ)) (c : List Literal) (k : ℕ) (p : Pair) (a : Literal)
    → Turn t head a → p.first ≢ a → p.second ≢ a → Guard t stops head lists c k p → Safe t p.first p.second (head + 1) (length t)
other_safe t stops head lists c k p a r u v g = safe_turn t head a p.first p.second (length t) r u v g.here

pub pending_start : (clauses : List (List Literal)) (t : List Literal) (stops : List Stop) (head : ℕ) (lists : List (List ℕ)) (pairs : List Pair) (short : List ℕ) (a : Literal)
    → Turn t head a → Guarded clauses t stops head lists pairs short → Pending clauses t head lists pairs a 0
pending_start clauses t stops head lists pairs short a r g k w e =
    let p = get_or pairs k no_pair in
    let q = g.watched k w e in
    elim (cases_literal p.first a) [
      | inl same ↦ inr (subst (λ x. 0 < count_of k (get_or lists (code_of x) [])) same q.first_listed)
      | inr u ↦ elim (cases_literal p.second a) [
        | inl same ↦ inr (subst (λ x. 0 < count_of k (get_or lists (code_of x) [])) same q.second_listed)
        | inr v ↦ inl (other_safe t stops head lists (get_or clauses k []) k p a r u v q)
      ]
    ]

pub pending_end : (clauses : List (List Literal)) (t : List Literal) (head : ℕ) (lists : List (List ℕ)) (pairs : List Pair) (a : Literal) (i : ℕ)
    → length (get_or lists (code_of a) []) ≤ i → Pending clauses t head lists pairs a i → AllSafe clauses t pairs (head + 1) (length t)
pending_end clauses t head lists pairs a i w p k v e = elim (p k v e) [
  | inl s ↦ s
  | inr n ↦ let z : count_of k (drop i (get_or lists (code_of a) [])) ≡ 0 = ap (count_of k) (drop_all i (get_or lists (code_of a) []) w) in absurd (omega (arith, n, z))
]

-- the clause at place i is safe
pub pending_pass : (clauses : List (List Literal)) (t : List Literal) (head : ℕ) (lists : List (List ℕ)) (pairs : List Pair) (a : Literal) (i n : ℕ)
    → i < length (get_or lists (code_of a) []) → get_or (get_or lists (code_of a) []) i 0 ≡ n
    → (n < length clauses → (get_or pairs n no_pair).watched ≡ true → Safe t (get_or pairs n no_pair).first (get_or pairs n no_pair).second (head + 1) (length t))
    → Pending clauses t head lists pairs a i → Pending clauses t head lists pairs a (i + 1)
pending_pass clauses t head lists pairs a i n w is here p k v e = elim (cases_eq n k) [
  | inl same ↦ inl (subst (λ m. m < length clauses → (get_or pairs m no_pair).watched ≡ true → Safe t (get_or pairs m no_pair).first (get_or pairs m no_pair).second (head + 1) (length t)) same here v e)
  | inr other ↦ elim (p k v e) [
    | inl s ↦ inl s
    | inr m ↦ inr (omega (arith, count_rest k i (get_or lists (code_of a) []) w, is_none k (get_or (get_or lists (code_of a) []) i 0) (λ q. other (sym is ∙ q)), m))
  ]
]

pub pending_push : (clauses : List (List Literal)) (t : List Literal) (head : ℕ) (lists : List (List ℕ)) (pairs : List Pair) (a l : Literal) (i : ℕ)
    → head < length t → Pending clauses t head lists pairs a i → Pending clauses (t ++ l ∷ []) head lists pairs a i
pending_push clauses t head lists pairs a l i w p k v e = elim (p k v e) [
  | inl s ↦ let q = get_or pairs k no_pair in
      inl (safe_longer (t ++ l ∷ []) q.first q.second (head + 1) (length t) (length (t ++ l ∷ [])) (omega (arith, length_push t l)) (safe_assign t (l ∷ []) q.first q.second (head + 1) (length t) (omega (arith, w)) (omega arith) s))
  | inr n ↦ inr n
]

-- either order of a pair with a true literal
pub safe_either : (t : List Literal) (p : Pair) (a b : Literal) (h : ℕ) → (p ≡ pair a b) ⊎ (p ≡ pair b a) → Holds t b → Safe t p.first p.second h (length t)
safe_either t p a b h (inl e) q = subst (λ x. Safe t x.first x.second h (length t)) (sym e) (safe_true t a b h q)
safe_either t p a b h (inr e) q = subst (λ x. Safe t x.first x.second h (length t)) (sym e) (safe_swap t a b h (length t) (safe_true t a b h q))

-- the pair of clause n is turned
pub pending_turn : (clauses : List (List Literal)) (t : List Literal) (head : ℕ) (lists : List (List ℕ)) (pairs : List Pair) (a b : Literal) (i n : ℕ) → n < length pairs
    → (get_or pairs n no_pair ≡ pair a b) ⊎ (get_or pairs n no_pair ≡ pair b a) → Pending clauses t head lists pairs a i → Pending clauses t head lists (set pairs n (pair a b)) a i
pending_turn clauses t head lists pairs a b i n wn either p k v e = elim (cases_eq k n) [
  | inr other ↦
      let kept = get_or-set_other pairs n k (pair a b) no_pair other in
      elim (p k v (ap (λ q. q.watched) (sym kept) ∙ e)) [
        | inl s ↦ inl (subst (λ q. Safe t q.first q.second (head + 1) (length t)) (sym kept) s)
        | inr m ↦ inr m
      ]
  | inl same ↦
      let is : get_or (set pairs n (pair a b)) k no_pair ≡ pair a b = ap (λ m. get_or (set pairs n (pair a b)) m no_pair) same ∙ get_or-set_same pairs n (pair a b) no_pair wn in
      let was : (get_or pairs k no_pair ≡ pair a b) ⊎ (get_or pairs k no_pair ≡ pair b a) = subst (λ m. (get_or pairs m no_pair ≡ pair a b) ⊎ (get_or pairs m no_pair ≡ pair b a)) (sym same) either in
      elim (p k v (elim was [ inl q ↦ ap (λ x. x.watched) q | inr q ↦ ap (λ x. x.watched) q ])) [
        | inl s ↦ inl (subst (λ q. Safe t q.first q.second (head + 1) (length t)) (sym is) (elim was [
          | inl q ↦ subst (λ x. Safe t x.first x.second (head + 1) (length t)) q s
          | inr q ↦ safe_swap t b a (head + 1) (length t) (subst (λ x. Safe t x.first x.second (head + 1) (length t)) q s)
        ]))
        | inr m ↦ inr m
      ]
]

-- clause n has left the list of a for another watch
pub pending_move : (clauses : List (List Literal)) (t : List Literal) (stops : List Stop) (head : ℕ) (lists after : List (List ℕ)) (pairs : List Pair) (c : List Literal) (a b new : Literal) (i n : ℕ)
    → n < length pairs → i < length (get_or lists (code_of a) []) → get_or (get_or lists (code_of a) []) i 0 ≡ n
    → Turn t head a → (Fails t new → ⊥) → Guard t stops head lists c n (pair a b)
    → get_or after (code_of a) [] ≡ swap_remove (get_or lists (code_of a) []) i n
    → Pending clauses t head lists pairs a i → Pending clauses t head after (set pairs n (pair new b)) a i
pending_move clauses t stops head lists after pairs c a b new i n wn w is r free g swapped p k v e =
    let xs = get_or lists (code_of a) [] in
    let fails = turn_fails t head a r in
    elim (cases_eq k n) [
      | inl same ↦
          let q : get_or (set pairs n (pair new b)) k no_pair ≡ pair new b = ap (λ m. get_or (set pairs n (pair new b)) m no_pair) same ∙ get_or-set_same pairs n (pair new b) no_pair wn in
          let s : Safe t new b (head + 1) (length t) = safe_turn t head a new b (length t) r (λ z. free (subst (Fails t) (sym z) fails)) (λ z. g.distinct (sym z)) (safe_move t a b new head (length t) fails free g.here) in
          inl (subst (λ x. Safe t x.first x.second (head + 1) (length t)) (sym q) s)
      | inr other ↦
          let kept = get_or-set_other pairs n k (pair new b) no_pair other in
          elim (p k v (ap (λ q. q.watched) (sym kept) ∙ e)) [
            | inl s ↦ inl (subst (λ q. Safe t q.first q.second (head + 1) (length t)) (sym kept) s)
            | inr m ↦
                let at : get_or xs i n ≡ n = get_or_default xs i n 0 w ∙ is in
                let z = count_removed k i n xs w (λ y. other (sym (sym at ∙ y))) in
                inr (subst (λ ys. 0 < count_of k (drop i ys)) (sym swapped) (omega (arith, z, m)))
          ]
    ]

-- the same walk over equal tables
pub pending_as : (clauses clauses' : List (List Literal)) (t t' : List Literal) (head head' : ℕ) (lists lists' : List (List ℕ)) (pairs pairs' : List Pair) (a : Literal) (i : ℕ)
    → clauses' ≡ clauses → t' ≡ t → head' ≡ head → lists' ≡ lists → pairs' ≡ pairs → Pending clauses t head lists pairs a i → Pending clauses' t' head' lists' pairs' a i
pending_as clauses clauses' t t' head head' lists lists' pairs pairs' a i ec et eh el ep p =
    let p1 = subst (λ x. Pending x t head lists pairs a i) (sym ec) p in
    let p2 = subst (λ x. Pending clauses' x head lists pairs a i) (sym et) p1 in
    let p3 = subst (λ x. Pending clauses' t' x lists pairs a i) (sym eh) p2 in
    let p4 = subst (λ x. Pending clauses' t' head' x pairs a i) (sym el) p3 in
    subst (λ x. Pending clauses' t' head' lists' x a i) (sym ep) p4

-- what is counted has a place
count_place : (k : ℕ) (xs : List ℕ) → 0 < count_of k xs → (i : ℕ) × ((i < length xs) × (get_or xs i 0 ≡ k))
count_place k [] h = absurd (omega (arith, h))
count_place k (x ∷ xs) h = elim (cases_eq x k) [
  | inl e ↦ (0, (omega arith, e))
  | inr u ↦ let r = count_place k xs (omega (arith, h, sum_by-cons (λ y. cond (eqb y k) 1 0) x xs, is_none k x u)) in (suc r.0, (omega (arith, r.1.0), r.1.1))
]

cases_bool : (b : Bool) → (b ≡ true) ⊎ (b ≡ false)
cases_bool true = inl refl
cases_bool false = inr refl

guard_quiet : (t : List Literal) (stops : List Stop) (head : ℕ) (lists : List (List ℕ)) (c : List Literal) (k : ℕ) (p : Pair) → head ≡ length t → Guard t stops head lists c k p → Looks t c look.Quiet
guard_quiet t stops head lists c k p e g =
    let i = member_place p.first c g.first_in in
    let j = member_place p.second c g.second_in in
    safe_quiet t c i.0 j.0 p.first p.second i.1.0 j.1.0 (sym (i.1.1 p.first)) (sym (j.1.1 p.second)) g.distinct (subst (λ h. Safe t p.first p.second h (length t)) e g.here)

-- the queue is empty, and the short clauses are quiet: so are all
pub closed_by : (clauses : List (List Literal)) (t : List Literal) (stops : List Stop) (head : ℕ) (lists : List (List ℕ)) (pairs : List Pair) (short : List ℕ)
    → head ≡ length t → Guarded clauses t stops head lists pairs short
    → ((i : ℕ) → i < length short → get_or short i 0 < length clauses → Looks t (get_or clauses (get_or short i 0) []) look.Quiet) → IsClosed clauses t
closed_by clauses t stops head lists pairs short e g q =
    let each : (k : ℕ) → k < length clauses → Looks t (get_or clauses k []) look.Quiet = λ k w. elim (cases_bool (get_or pairs k no_pair).watched) [
      | inl kind ↦ guard_quiet t stops head lists (get_or clauses k []) k (get_or pairs k no_pair) e (g.watched k w kind)
      | inr kind ↦ let r = count_place k short (g.others k w kind) in
          subst (λ n. Looks t (get_or clauses n []) look.Quiet) r.1.1 (q r.0 r.1.0 (subst (λ n. n < length clauses) (sym r.1.1) w))
    ] in
    record { unrefuted = λ k w. (each k w).0; unforced = λ k l w. (each k w).1 l }

-- one short clause more is quiet
pub short_step : (clauses : List (List Literal)) (t : List Literal) (short : List ℕ) (n : ℕ)
    → ((i : ℕ) → i < n → get_or short i 0 < length clauses → Looks t (get_or clauses (get_or short i 0) []) look.Quiet)
    → (get_or short n 0 < length clauses → Looks t (get_or clauses (get_or short n 0) []) look.Quiet)
    → (i : ℕ) → i < n + 1 → get_or short i 0 < length clauses → Looks t (get_or clauses (get_or short i 0) []) look.Quiet
short_step clauses t short n q here i w v = elim (cases_eq i n) [
  | inl same ↦ subst (λ j. get_or short j 0 < length clauses → Looks t (get_or clauses (get_or short j 0) []) look.Quiet) (sym same) here v
  | inr other ↦ q i (omega (arith, other, w)) v
]

-- at the last level's beginning, and with as many literals as there were later
pub safe_at_last : (clauses : List (List Literal)) (t : List Literal) (stops : List Stop) (head : ℕ) (lists : List (List ℕ)) (pairs : List Pair) (short : List ℕ) (before : ℕ)
    → ((j : ℕ) → j < length stops → (get_or stops j no_stop).mark < before) → Guarded clauses t stops head lists pairs short → AllSafe clauses t pairs (done_of stops) before
safe_at_last clauses t [] head lists pairs short before m g k w e = safe_first t (get_or pairs k no_pair).first (get_or pairs k no_pair).second before
safe_at_last clauses t (s ∷ stops) head lists pairs short before m g k w e =
    let last = length (s ∷ stops) - 1 in
    let v : last < length (s ∷ stops) = omega arith in
    let at = get_or (s ∷ stops) last no_stop in
    safe_longer t (get_or pairs k no_pair).first (get_or pairs k no_pair).second at.done at.mark before (omega (arith, m last v)) ((g.watched k w e).past last v)
