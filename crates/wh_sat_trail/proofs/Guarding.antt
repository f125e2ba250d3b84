use Rattle.std.proofs.Common.{◌≡◌, ◌≢◌, ℕ, ◌+◌, ◌-◌, ◌*◌, ◌<◌, ◌≤◌, zero, suc, Bool, true, false, cond, List, [], ◌∷◌, ◌++◌, length, get_or, take, set, eqb, ◌||◌, ◌&&◌, refl, sym, ◌∙◌, ap, subst, ◌⊎◌, inl, inr, arith, tests}
use Rattle.std.specs.List.{swap_remove}
use Rattle.std.proofs.lemmas.List.{get_or_default, length_push, get_or-set_same, get_or-set_other, length-set, get_or_push, get_or_append_left, get_or-take, length-take-le}
use Rattle.std.proofs.lemmas.List.Sums.{sum_by-swap_remove, sum_by_push}
use Rattle.std.proofs.lemmas.Bool.{cases_eq, cases_lt}
use Rattle.wh_sat_trail.specs.declared.literal.Literal.{Literal}
use Rattle.wh_sat_trail.specs.declared.watch.Stop.{Stop}
use Rattle.wh_sat_trail.specs.declared.watch.Pair.{Pair}
use Rattle.wh_sat_trail.specs.Assignment.{Fails, Open}
use Rattle.wh_sat_trail.specs.Code.{code_of}
use Rattle.wh_sat_trail.specs.Member.{member}
use Rattle.wh_sat_trail.specs.Watch.{Safe, Guard, Guarded, Ordered, Listed, AllSafe, count_of, no_stop, no_pair, pair}
use Rattle.wh_sat_trail.proofs.Looking.{beq_refl, cases_literal, lit_same}
use Rattle.wh_sat_trail.specs.Propagation.{IsForced}
use mathlib.Core.Bool.{beq}
use Rattle.wh_sat_trail.proofs.Watching.{safe_assign, safe_longer, safe_move, safe_swap, safe_possible}

or_true : (b : Bool) → (b || true) ≡ true
or_true true = refl
or_true false = refl

eqb_refl : (n : ℕ) → eqb n n ≡ true
eqb_refl n = grind (arith, tests)

pub swap_default : (xs : List ℕ) (i d e : ℕ) → 0 < length xs → swap_remove xs i d ≡ swap_remove xs i e
swap_default xs i d e w = ap (λ y. take (length xs - 1) (set xs i y)) (get_or_default xs (length xs - 1) d e (omega (arith, w)))

-- the order of the stops, when a literal becomes true
pub ordered_push : (stops : List Stop) (head : ℕ) (t : List Literal) (l : Literal) → Ordered stops head (length t) → Ordered stops head (length (t ++ l ∷ []))
ordered_push stops head t l o =
    let e = length_push t l in
    record { head_in = omega (arith, e, o.head_in); stop = o.stop; marks_in = λ j w. omega (arith, e, o.marks_in j w); dones_in = o.dones_in; marks = o.marks; dones = o.dones }

pub guard_push : (t : List Literal) (stops : List Stop) (head : ℕ) (lists : List (List ℕ)) (c : List Literal) (k : ℕ) (p : Pair) (l : Literal)
    → Ordered stops head (length t) → Guard t stops head lists c k p → Guard (t ++ l ∷ []) stops head lists c k p
guard_push t stops head lists c k p l o g = record {
  first_in = g.first_in;
  second_in = g.second_in;
  distinct = g.distinct;
  first_listed = g.first_listed;
  second_listed = g.second_listed;
  here = safe_longer (t ++ l ∷ []) p.first p.second head (length t) (length (t ++ l ∷ [])) (omega (arith, length_push t l)) (safe_assign t (l ∷ []) p.first p.second head (length t) o.head_in (omega arith) g.here);
  past = λ j w. safe_assign t (l ∷ []) p.first p.second (get_or stops j no_stop).done (get_or stops j no_stop).mark (o.stop j w) (omega (arith, o.marks_in j w)) (g.past j w);
}

pub guarded_push : (clauses : List (List Literal)) (t : List Literal) (stops : List Stop) (head : ℕ) (lists : List (List ℕ)) (pairs : List Pair) (short : List ℕ) (l : Literal)
    → Ordered stops head (length t) → Guarded clauses t stops head lists pairs short → Guarded clauses (t ++ l ∷ []) stops head lists pairs short
guarded_push clauses t stops head lists pairs short l o g = record {
  watched = λ k w e. guard_push t stops head lists (get_or clauses k []) k (get_or pairs k no_pair) l o (g.watched k w e);
  others = g.others;
}

or_rest : (a b : Bool) → a ≡ false → (a || b) ≡ true → b ≡ true
or_rest a b e h = rw e at h

not_true : (b : Bool) → (b ≡ true → ⊥) → b ≡ false
not_true true f = absurd (f refl)
not_true false f = refl

different : (x l : Literal) → x ≢ l → (eqb x.variable l.variable && beq x.positive l.positive) ≡ false
different x l u = not_true _ (λ e. u (lit_same x l (rw e refl)))

member_later : (x l : Literal) (rest : Bool) → x ≢ l → ((eqb x.variable l.variable && beq x.positive l.positive) || rest) ≡ true → rest ≡ true
member_later x l rest u e = or_rest _ rest (different x l u) e

pub member_at : (c : List Literal) (i : ℕ) (d : Literal) → i < length c → member (get_or c i d) c ≡ true
member_at [] i d w = absurd (omega arith)
member_at (x ∷ c) zero d w = rw (eqb_refl x.variable, beq_refl x.positive) refl
member_at (x ∷ c) (suc i) d w = rw (member_at c i d (omega arith)) (or_true _)

abbrev pub Rest : List Literal → List Literal → Literal → ℕ → ℕ → Type 0
Rest t c other from n = (i : ℕ) (d : Literal) → from ≤ i → i < n → get_or c i d ≢ other → Fails t (get_or c i d)

pub rest_step : (t c : List Literal) (other : Literal) (from n : ℕ) (e : Literal) → Rest t c other from n → n < length c → (get_or c n e ≡ other) ⊎ (Fails t (get_or c n e)) → Rest t c other from (n + 1)
rest_step t c other from n e h w s i d f q u = elim (cases_eq i n) [
  | inl same ↦ elim s [
    | inl o ↦ absurd (u (subst (λ j. get_or c j d ≡ other) (sym same) (get_or_default c n d e w ∙ o)))
    | inr f ↦ subst (λ j. Fails t (get_or c j d)) (sym same) (subst (Fails t) (get_or_default c n e d w) f)
  ]
  | inr o ↦ h i d f (omega (arith, o, q)) u
]

-- from a place on, and before it
pub rest_all : (t c : List Literal) (other : Literal) (middle : ℕ) → Rest t c other middle (length c) → Rest t c other 0 middle
    → (i : ℕ) (d : Literal) → i < length c → get_or c i d ≢ other → Fails t (get_or c i d)
rest_all t c other middle late early i d w u = elim (cases_lt i middle) [
  | inl l ↦ early i d (omega arith) l u
  | inr l ↦ late i d l w u
]

pub is_one : (k x : ℕ) → x ≡ k → cond (eqb x k) 1 0 ≡ suc zero
is_one k x e = grind (arith, tests)

pub is_none : (k x : ℕ) → x ≢ k → cond (eqb x k) 1 0 ≡ zero
is_none k x e = grind (arith, tests)

pub count_push : (k y : ℕ) (xs : List ℕ) → count_of k (xs ++ y ∷ []) ≡ count_of k xs + cond (eqb y k) 1 0
count_push k y xs = sum_by_push (λ x. cond (eqb x k) 1 0) xs y

-- the lists, when clause k moves from the list `old` to the list `new`
abbrev pub rewatched : List (List ℕ) → ℕ → ℕ → ℕ → ℕ → List (List ℕ)
rewatched lists new old at k = let more = set lists new (get_or lists new [] ++ k ∷ []) in set more old (swap_remove (get_or more old []) at k)

pub listed_new : (lists : List (List ℕ)) (new old at k : ℕ) → new < length lists → new ≢ old → 0 < count_of k (get_or (rewatched lists new old at k) new [])
listed_new lists new old at k w u =
    let more = set lists new (get_or lists new [] ++ k ∷ []) in
    rw (get_or-set_other more old new (swap_remove (get_or more old []) at k) [] u, get_or-set_same lists new (get_or lists new [] ++ k ∷ []) [] w, count_push k k (get_or lists new []), is_one k k refl) (omega arith)

pub listed_other : (lists : List (List ℕ)) (new old at k c : ℕ) → new < length lists → c ≢ old → (j : ℕ) → 0 < count_of j (get_or lists c []) → 0 < count_of j (get_or (rewatched lists new old at k) c [])
listed_other lists new old at k c w u j h =
    let more = set lists new (get_or lists new [] ++ k ∷ []) in
    rw (get_or-set_other more old c (swap_remove (get_or more old []) at k) [] u)
    (elim (cases_eq c new) [
      | inl same ↦ rw (same, get_or-set_same lists new (get_or lists new [] ++ k ∷ []) [] w, count_push j k (get_or lists new [])) (let h' : 0 < count_of j (get_or lists new []) = subst (λ q. 0 < count_of j (get_or lists q [])) same h in omega (arith, h'))
      | inr other ↦ rw (get_or-set_other lists new c (get_or lists new [] ++ k ∷ []) [] other) h
    ])

pub listed_old : (lists : List (List ℕ)) (new old at k : ℕ) → old < length lists → new ≢ old → at < length (get_or lists old []) → get_or (get_or lists old []) at 0 ≡ k → (j : ℕ) → j ≢ k → 0 < count_of j (get_or lists old []) → 0 < count_of j (get_or (rewatched lists new old at k) old [])
listed_old lists new old at k w u wa is j jk h =
    let more = set lists new (get_or lists new [] ++ k ∷ []) in
    let e : get_or more old [] ≡ get_or lists old [] = get_or-set_other lists new old (get_or lists new [] ++ k ∷ []) [] (λ q. u (sym q)) in
    let s = sum_by-swap_remove (λ x. cond (eqb x j) 1 0) (get_or lists old []) at k wa in
    let z = is_none j (get_or (get_or lists old []) at k) (λ q. jk (sym q ∙ get_or_default (get_or lists old []) at k 0 wa ∙ is)) in
    rw (get_or-set_same more old (swap_remove (get_or more old []) at k) [] (omega (arith, w, length-set lists new (get_or lists new [] ++ k ∷ []))), e) (omega (arith, s, z, h))

code_same : (v w : ℕ) (p q : Bool) → 2 * v + cond p 1 0 ≡ 2 * w + cond q 1 0 → (v ≡ w) × (p ≡ q)
code_same v w true true e = (omega (arith, e), refl)
code_same v w false false e = (omega (arith, e), refl)
code_same v w true false e = absurd (omega (arith, e))
code_same v w false true e = absurd (omega (arith, e))

pub code_inj : (a b : Literal) → code_of a ≡ code_of b → a ≡ b
code_inj a b e =
    let r = code_same a.variable b.variable a.positive b.positive e in
    ap (λ n. let r : Literal = record { variable = n; positive = a.positive } in r) r.0 ∙ ap (λ q. let r : Literal = record { variable = b.variable; positive = q } in r) r.1

listed_rest : (lists : List (List ℕ)) (new old at k j : ℕ) (a : Literal) → new < length lists → old < length lists → new ≢ old → at < length (get_or lists old []) → get_or (get_or lists old []) at 0 ≡ k → j ≢ k → Listed lists a j → Listed (rewatched lists new old at k) a j
listed_rest lists new old at k j a wn wo u wa is jk h = elim (cases_eq (code_of a) old) [
  | inl same ↦ subst (λ q. 0 < count_of j (get_or (rewatched lists new old at k) q [])) (sym same) (listed_old lists new old at k wo u wa is j jk (subst (λ q. 0 < count_of j (get_or lists q [])) same h))
  | inr other ↦ listed_other lists new old at k (code_of a) wn other j h
]

-- clause k gives up its false first watch a for another literal that is not false
pub guarded_move : (clauses : List (List Literal)) (t : List Literal) (stops : List Stop) (head : ℕ) (lists : List (List ℕ)) (pairs : List Pair) (short : List ℕ) (k at : ℕ) (a b new : Literal)
    → k < length pairs → code_of new < length lists → code_of a < length lists → k < length clauses → get_or pairs k no_pair ≡ pair a b
    → Fails t a → member new (get_or clauses k []) ≡ true → new ≢ b → (Fails t new → ⊥)
    → at < length (get_or lists (code_of a) []) → get_or (get_or lists (code_of a) []) at 0 ≡ k
    → Guarded clauses t stops head lists pairs short → Guarded clauses t stops head (rewatched lists (code_of new) (code_of a) at k) (set pairs k (pair new b)) short
guarded_move clauses t stops head lists pairs short k at a b new wp wn wo wk is_pair fails has other free wa is g =
    let old = code_of a in
    let u : code_of new ≢ old = λ e. free (subst (Fails t) (sym (code_inj new a e)) fails) in
    let gk : Guard t stops head lists (get_or clauses k []) k (pair a b) = subst (Guard t stops head lists (get_or clauses k []) k) is_pair (g.watched k wk (ap (λ p. p.watched) is_pair)) in
    let bu : code_of b ≢ old = λ e. gk.distinct (sym (code_inj b a e)) in
    let mine : Guard t stops head (rewatched lists (code_of new) old at k) (get_or clauses k []) k (pair new b) = record {
      first_in = has;
      second_in = gk.second_in;
      distinct = other;
      first_listed = listed_new lists (code_of new) old at k wn u;
      second_listed = listed_other lists (code_of new) old at k (code_of b) wn bu k gk.second_listed;
      here = safe_move t a b new head (length t) fails free gk.here;
      past = λ j w. safe_move t a b new (get_or stops j no_stop).done (get_or stops j no_stop).mark fails free (gk.past j w);
    } in
    record {
      watched = λ j w e. elim (cases_eq j k) [
        | inl same ↦
            let m1 = subst (Guard t stops head (rewatched lists (code_of new) old at k) (get_or clauses k []) k) (sym (get_or-set_same pairs k (pair new b) no_pair wp)) mine in
            subst (λ q. Guard t stops head (rewatched lists (code_of new) old at k) (get_or clauses q []) q (get_or (set pairs k (pair new b)) q no_pair)) (sym same) m1
        | inr u2 ↦
            let kept = get_or-set_other pairs k j (pair new b) no_pair u2 in
            let gj = g.watched j w (ap (λ p. p.watched) (sym kept) ∙ e) in
            let r : Guard t stops head (rewatched lists (code_of new) old at k) (get_or clauses j []) j (get_or pairs j no_pair) = record {
              first_in = gj.first_in;
              second_in = gj.second_in;
              distinct = gj.distinct;
              first_listed = listed_rest lists (code_of new) old at k j (get_or pairs j no_pair).first wn wo u wa is u2 gj.first_listed;
              second_listed = listed_rest lists (code_of new) old at k j (get_or pairs j no_pair).second wn wo u wa is u2 gj.second_listed;
              here = gj.here;
              past = gj.past;
            } in
            subst (Guard t stops head (rewatched lists (code_of new) old at k) (get_or clauses j []) j) (sym kept) r
      ];
      others = λ j w e. elim (cases_eq j k) [
        | inl same ↦ absurd (grind (arith, tests, ap (λ p. p.watched) (sym (get_or-set_same pairs k (pair new b) no_pair wp)), subst (λ q. (get_or (set pairs k (pair new b)) q no_pair).watched ≡ false) same e))
        | inr u2 ↦ g.others j w (ap (λ p. p.watched) (sym (get_or-set_other pairs k j (pair new b) no_pair u2)) ∙ e)
      ];
    }

-- a pair in the other order
pub guard_swap : (t : List Literal) (stops : List Stop) (head : ℕ) (lists : List (List ℕ)) (c : List Literal) (k : ℕ) (a b : Literal) → Guard t stops head lists c k (pair b a) → Guard t stops head lists c k (pair a b)
guard_swap t stops head lists c k a b g = record {
  first_in = g.second_in;
  second_in = g.first_in;
  distinct = λ e. g.distinct (sym e);
  first_listed = g.second_listed;
  second_listed = g.first_listed;
  here = safe_swap t b a head (length t) g.here;
  past = λ j w. safe_swap t b a (get_or stops j no_stop).done (get_or stops j no_stop).mark (g.past j w);
}

-- another pair for clause k, which has its guard
pub guarded_set : (clauses : List (List Literal)) (t : List Literal) (stops : List Stop) (head : ℕ) (lists : List (List ℕ)) (pairs : List Pair) (short : List ℕ) (k : ℕ) (a b : Literal)
    → k < length pairs → Guard t stops head lists (get_or clauses k []) k (pair a b) → Guarded clauses t stops head lists pairs short → Guarded clauses t stops head lists (set pairs k (pair a b)) short
guarded_set clauses t stops head lists pairs short k a b wp mine g = record {
  watched = λ j w e. elim (cases_eq j k) [
    | inl same ↦
        let m1 = subst (Guard t stops head lists (get_or clauses k []) k) (sym (get_or-set_same pairs k (pair a b) no_pair wp)) mine in
        subst (λ q. Guard t stops head lists (get_or clauses q []) q (get_or (set pairs k (pair a b)) q no_pair)) (sym same) m1
    | inr u ↦
        let kept = get_or-set_other pairs k j (pair a b) no_pair u in
        subst (Guard t stops head lists (get_or clauses j []) j) (sym kept) (g.watched j w (ap (λ p. p.watched) (sym kept) ∙ e))
  ];
  others = λ j w e. elim (cases_eq j k) [
    | inl same ↦ absurd (grind (arith, tests, ap (λ p. p.watched) (sym (get_or-set_same pairs k (pair a b) no_pair wp)), subst (λ q. (get_or (set pairs k (pair a b)) q no_pair).watched ≡ false) same e))
    | inr u ↦ g.others j w (ap (λ p. p.watched) (sym (get_or-set_other pairs k j (pair a b) no_pair u)) ∙ e)
  ];
}

-- the queue has gone on to another place
pub guarded_head : (clauses : List (List Literal)) (t : List Literal) (stops : List Stop) (head next : ℕ) (lists : List (List ℕ)) (pairs : List Pair) (short : List ℕ)
    → AllSafe clauses t pairs next (length t) → Guarded clauses t stops head lists pairs short → Guarded clauses t stops next lists pairs short
guarded_head clauses t stops head next lists pairs short s g = record {
  watched = λ k w e. let q = g.watched k w e in record {
    first_in = q.first_in;
    second_in = q.second_in;
    distinct = q.distinct;
    first_listed = q.first_listed;
    second_listed = q.second_listed;
    here = s k w e;
    past = q.past;
  };
  others = g.others;
}

stop_at : (stops : List Stop) (s : Stop) (j : ℕ) → j < length (stops ++ s ∷ []) → ((j < length stops) × (get_or (stops ++ s ∷ []) j no_stop ≡ get_or stops j no_stop)) ⊎ ((j ≡ length stops) × (get_or (stops ++ s ∷ []) j no_stop ≡ s))
stop_at stops s j w = elim (cases_eq j (length stops)) [
  | inl same ↦ inr (same, get_or_push stops s no_stop j (sym same))
  | inr other ↦ let v : j < length stops = omega (arith, length_push stops s, other, w) in inl (v, get_or_append_left stops (s ∷ []) no_stop j v)
]

-- a level is opened by a decision
pub guarded_decide : (clauses : List (List Literal)) (t : List Literal) (stops : List Stop) (head : ℕ) (lists : List (List ℕ)) (pairs : List Pair) (short : List ℕ) (l : Literal)
    → Ordered stops head (length t) → Guarded clauses t stops head lists pairs short
    → Guarded clauses (t ++ l ∷ []) (stops ++ (record { done = head; mark = length t }) ∷ []) head lists pairs short
guarded_decide clauses t stops head lists pairs short l o g =
    let s : Stop = record { done = head; mark = length t } in
    record {
      watched = λ k w e.
          let p = get_or pairs k no_pair in
          let old = g.watched k w e in
          let q = guard_push t stops head lists (get_or clauses k []) k p l o old in
          record {
            first_in = q.first_in;
            second_in = q.second_in;
            distinct = q.distinct;
            first_listed = q.first_listed;
            second_listed = q.second_listed;
            here = q.here;
            past = λ j v. elim (stop_at stops s j v) [
              | inl r ↦ subst (λ z. Safe (t ++ l ∷ []) p.first p.second z.done z.mark) (sym r.1) (q.past j r.0)
              | inr r ↦ subst (λ z. Safe (t ++ l ∷ []) p.first p.second z.done z.mark) (sym r.1) (safe_assign t (l ∷ []) p.first p.second head (length t) o.head_in (omega arith) old.here)
            ];
          };
      others = g.others;
    }

pub ordered_decide : (t : List Literal) (stops : List Stop) (head : ℕ) (l : Literal) → Ordered stops head (length t) → Ordered (stops ++ (record { done = head; mark = length t }) ∷ []) head (length (t ++ l ∷ []))
ordered_decide t stops head l o =
    let s : Stop = record { done = head; mark = length t } in
    let e = length_push t l in
    record {
      head_in = omega (arith, e, o.head_in);
      stop = λ j w. elim (stop_at stops s j w) [ inl r ↦ rw r.1 (o.stop j r.0) | inr r ↦ rw r.1 o.head_in ];
      marks_in = λ j w. elim (stop_at stops s j w) [ inl r ↦ rw r.1 (omega (arith, e, o.marks_in j r.0)) | inr r ↦ rw r.1 (omega (arith, e)) ];
      dones_in = λ j w. elim (stop_at stops s j w) [ inl r ↦ rw r.1 (o.dones_in j r.0) | inr r ↦ rw r.1 (omega arith) ];
      marks = λ i j ij w. elim (stop_at stops s j w) [
        | inl r ↦ rw (r.1, get_or_append_left stops (s ∷ []) no_stop i (omega (arith, ij, r.0))) (o.marks i j ij r.0)
        | inr r ↦ rw (r.1, get_or_append_left stops (s ∷ []) no_stop i (omega (arith, ij, r.0))) (o.marks_in i (omega (arith, ij, r.0)))
      ];
      dones = λ i j ij w. elim (stop_at stops s j w) [
        | inl r ↦ rw (r.1, get_or_append_left stops (s ∷ []) no_stop i (omega (arith, ij, r.0))) (o.dones i j ij r.0)
        | inr r ↦ rw (r.1, get_or_append_left stops (s ∷ []) no_stop i (omega (arith, ij, r.0))) (o.dones_in i (omega (arith, ij, r.0)))
      ];
    }

-- fewer levels
pub guarded_fewer : (clauses : List (List Literal)) (t : List Literal) (stops : List Stop) (head : ℕ) (lists : List (List ℕ)) (pairs : List Pair) (short : List ℕ) (n : ℕ) → n ≤ length stops
    → Guarded clauses t stops head lists pairs short → Guarded clauses t (take n stops) head lists pairs short
guarded_fewer clauses t stops head lists pairs short n wn g = record {
  watched = λ k w e. let q = g.watched k w e in record {
    first_in = q.first_in;
    second_in = q.second_in;
    distinct = q.distinct;
    first_listed = q.first_listed;
    second_listed = q.second_listed;
    here = q.here;
    past = λ j v. let u : j < n = omega (arith, length-take-le n stops wn, v) in
        subst (λ z. Safe t (get_or pairs k no_pair).first (get_or pairs k no_pair).second z.done z.mark) (sym (get_or-take n stops j no_stop u)) (q.past j (omega (arith, u, wn)));
  };
  others = g.others;
}

pub ordered_fewer : (stops : List Stop) (head m n : ℕ) → n ≤ length stops → Ordered stops head m → Ordered (take n stops) head m
ordered_fewer stops head m n wn o =
    let far : (j : ℕ) → j < length (take n stops) → j < n = λ j w. omega (arith, length-take-le n stops wn, w) in
    let at : (j : ℕ) → j < length (take n stops) → get_or (take n stops) j no_stop ≡ get_or stops j no_stop = λ j w. get_or-take n stops j no_stop (far j w) in
    record {
      head_in = o.head_in;
      stop = λ j w. rw (at j w) (o.stop j (omega (arith, far j w, wn)));
      marks_in = λ j w. rw (at j w) (o.marks_in j (omega (arith, far j w, wn)));
      dones_in = λ j w. rw (at j w) (o.dones_in j (omega (arith, far j w, wn)));
      marks = λ i j ij w. rw (at j w, get_or-take n stops i no_stop (omega (arith, ij, far j w))) (o.marks i j ij (omega (arith, far j w, wn)));
      dones = λ i j ij w. rw (at j w, get_or-take n stops i no_stop (omega (arith, ij, far j w))) (o.dones i j ij (omega (arith, far j w, wn)));
    }

-- a clause joins with its pair
pub guarded_join : (clauses : List (List Literal)) (t : List Literal) (stops : List Stop) (head : ℕ) (lists : List (List ℕ)) (pairs : List Pair) (short : List ℕ) (c : List Literal) (p : Pair)
    → length pairs ≡ length clauses → (p.watched ≡ true → Guard t stops head lists c (length clauses) p) → (p.watched ≡ false → 0 < count_of (length clauses) short)
    → Guarded clauses t stops head lists pairs short → Guarded (clauses ++ c ∷ []) t stops head lists (pairs ++ p ∷ []) short
guarded_join clauses t stops head lists pairs short c p same mine few g = record {
  watched = λ k w e. elim (cases_eq k (length clauses)) [
    | inl here ↦
        let ep : get_or (pairs ++ p ∷ []) k no_pair ≡ p = get_or_push pairs p no_pair k (same ∙ sym here) in
        let ec : get_or (clauses ++ c ∷ []) k [] ≡ c = get_or_push clauses c [] k (sym here) in
        let m = mine (ap (λ q. q.watched) (sym ep) ∙ e) in
        let m1 = subst (λ n. Guard t stops head lists c n p) (sym here) m in
        let m2 = subst (λ y. Guard t stops head lists y k p) (sym ec) m1 in
        subst (Guard t stops head lists (get_or (clauses ++ c ∷ []) k []) k) (sym ep) m2
    | inr other ↦
        let v : k < length clauses = omega (arith, length_push clauses c, other, w) in
        let ep : get_or (pairs ++ p ∷ []) k no_pair ≡ get_or pairs k no_pair = get_or_append_left pairs (p ∷ []) no_pair k (omega (arith, same, v)) in
        let ec : get_or (clauses ++ c ∷ []) k [] ≡ get_or clauses k [] = get_or_append_left clauses (c ∷ []) [] k v in
        let m = g.watched k v (ap (λ q. q.watched) (sym ep) ∙ e) in
        let m2 = subst (λ y. Guard t stops head lists y k (get_or pairs k no_pair)) (sym ec) m in
        subst (Guard t stops head lists (get_or (clauses ++ c ∷ []) k []) k) (sym ep) m2
  ];
  others = λ k w e. elim (cases_eq k (length clauses)) [
    | inl here ↦ let ep : get_or (pairs ++ p ∷ []) k no_pair ≡ p = get_or_push pairs p no_pair k (same ∙ sym here) in
        subst (λ n. 0 < count_of n short) (sym here) (few (ap (λ q. q.watched) (sym ep) ∙ e))
    | inr other ↦
        let v : k < length clauses = omega (arith, length_push clauses c, other, w) in
        g.others k v (ap (λ q. q.watched) (sym (get_or_append_left pairs (p ∷ []) no_pair k (omega (arith, same, v)))) ∙ e)
  ];
}

-- a number joins the short ones
pub guarded_short : (clauses : List (List Literal)) (t : List Literal) (stops : List Stop) (head : ℕ) (lists : List (List ℕ)) (pairs : List Pair) (short : List ℕ) (n : ℕ)
    → Guarded clauses t stops head lists pairs short → Guarded clauses t stops head lists pairs (short ++ n ∷ [])
guarded_short clauses t stops head lists pairs short n g = record { watched = g.watched; others = λ k w e. omega (arith, count_push k n short, g.others k w e) }

-- each level has a literal of its own
level_at : (stops : List Stop) (head n : ℕ) → Ordered stops head n → (j : ℕ) → j < length stops → j ≤ (get_or stops j no_stop).mark
level_at stops head n o zero w = omega arith
level_at stops head n o (suc j) w = omega (arith, level_at stops head n o j (omega (arith, w)), o.marks j (suc j) (omega arith) w)

pub levels_few : (stops : List Stop) (head n : ℕ) → Ordered stops head n → length stops ≤ n
levels_few [] head n o = omega arith
levels_few (s ∷ stops) head n o = omega (arith, level_at (s ∷ stops) head n o (length stops) (omega arith), o.marks_in (length stops) (omega arith))

-- the stops before a level lie before that level's stop
pub before_stop : (stops : List Stop) (head n level j : ℕ) → Ordered stops head n → level < length stops → j < length (take level stops)
    → ((get_or (take level stops) j no_stop).done ≤ (get_or stops level no_stop).done) × ((get_or (take level stops) j no_stop).mark < (get_or stops level no_stop).mark)
before_stop stops head n level j o w v =
    let u : j < level = omega (arith, length-take-le level stops (omega (arith, w)), v) in
    (rw (get_or-take level stops j no_stop u) (o.dones j level u w), rw (get_or-take level stops j no_stop u) (o.marks j level u w))

-- a member has a place
pub member_place : (l : Literal) (c : List Literal) → member l c ≡ true → (place : ℕ) × ((place < length c) × ((d : Literal) → get_or c place d ≡ l))
member_place l [] e = absurd (grind (arith, e))
member_place l (x ∷ c) e = elim (cases_literal x l) [
  | inl same ↦ (0, (omega arith, λ d. same))
  | inr other ↦ let r = member_place l c (member_later x l (member l c) other e) in (suc r.0, (omega (arith, r.1.0), λ d. r.1.1 d))
]

-- a literal that becomes true, forced by its clause
pub forced_by : (clauses : List (List Literal)) (t : List Literal) (k : ℕ) (l : Literal) → k < length clauses → Open t l → member l (get_or clauses k []) ≡ true
    → ((i : ℕ) (d : Literal) → i < length (get_or clauses k []) → get_or (get_or clauses k []) i d ≢ l → Fails t (get_or (get_or clauses k []) i d)) → IsForced clauses t l
forced_by clauses t k l w o m f =
    let r = member_place l (get_or clauses k []) m in
    record { clause = k; known = w; forces = record { free = o; place = r.0; within = r.1.0; is = r.1.1; others = f } }

-- the guard of a clause that joins with two watches that are not false
pub guard_new : (t : List Literal) (stops : List Stop) (head : ℕ) (lists : List (List ℕ)) (c : List Literal) (k : ℕ) (a b : Literal)
    → member a c ≡ true → member b c ≡ true → a ≢ b → (Fails t a → ⊥) → (Fails t b → ⊥) → Listed lists a k → Listed lists b k → Guard t stops head lists c k (pair a b)
guard_new t stops head lists c k a b ma mb u fa fb la lb = record {
  first_in = ma;
  second_in = mb;
  distinct = u;
  first_listed = la;
  second_listed = lb;
  here = safe_possible t a b head (length t) fa fb;
  past = λ j w. safe_possible t a b (get_or stops j no_stop).done (get_or stops j no_stop).mark fa fb;
}

pub code_below : (l : Literal) (n : ℕ) → l.variable < n → code_of l < 2 * n
code_below l n w = elim l.positive as (λ b. 2 * l.variable + cond b 1 0 < 2 * n) [ true ↦ omega (arith, w) | false ↦ omega (arith, w) ]
