use Rattle.std.proofs.Common.{◌≡◌, ◌≢◌, ℕ, ◌+◌, ◌<◌, ◌≤◌, Bool, true, false, not, List, [], ◌∷◌, ◌++◌, length, get_or, take, drop, Option, Some, None, refl, sym, ◌∙◌, ap, subst, ◌⊎◌, inl, inr, arith}
use Rattle.std.proofs.lemmas.List.{take_all, take-take, take-append-drop, take-append-le, length-append}
use Rattle.std.proofs.lemmas.Bool.{cases_eq}
use Rattle.wh_sat_trail.specs.declared.literal.Literal.{Literal}
use Rattle.wh_sat_trail.specs.declared.look.Look.TheVariants as look
use Rattle.wh_sat_trail.specs.Look.{Looks}
use Rattle.wh_sat_trail.specs.Assignment.{value_in, negated, Holds, Fails}
use Rattle.wh_sat_trail.specs.Watch.{Safe, Turn}
use Rattle.wh_sat_trail.proofs.Assigning.{stays, push_other, push_same}
use Rattle.wh_sat_trail.proofs.Looking.{true_not_false, open_not_false, forces_not, quiet_true}

-- what a front of the trail says, the trail says
pub stays_from : (t : List Literal) (m v : ℕ) (b : Bool) → value_in (take m t) v ≡ Some b → value_in t v ≡ Some b
stays_from t m v b h = subst (λ s. value_in s v ≡ Some b) (take-append-drop m t) (stays (take m t) (drop m t) v b h)

pub safe_swap : (t : List Literal) (a b : Literal) (h m : ℕ) → Safe t a b h m → Safe t b a h m
safe_swap t a b h m s = record { left = s.right; right = s.left }

-- the trail grows past the stop
pub safe_assign : (t u : List Literal) (a b : Literal) (h m : ℕ) → h ≤ m → m ≤ length t → Safe t a b h m → Safe (t ++ u) a b h m
safe_assign t u a b h m hm mt s =
    let eh : take h (t ++ u) ≡ take h t = take-append-le h t u (omega arith) in
    let em : take m (t ++ u) ≡ take m t = take-append-le m t u mt in
    record { left = λ f. subst (λ x. Holds x b) (sym em) (s.left (subst (λ x. Fails x a) eh f)); right = λ f. subst (λ x. Holds x a) (sym em) (s.right (subst (λ x. Fails x b) eh f)) }

-- the present stop, when the trail grows
pub safe_longer : (t : List Literal) (a b : Literal) (h m n : ℕ) → m ≤ n → Safe t a b h m → Safe t a b h n
safe_longer t a b h m n mn s =
    let e : take m (take n t) ≡ take m t = take-take m n t mn in
    record {
      left = λ f. stays_from (take n t) m b.variable b.positive (subst (λ x. Holds x b) (sym e) (s.left f));
      right = λ f. stays_from (take n t) m a.variable a.positive (subst (λ x. Holds x a) (sym e) (s.right f));
    }

-- back to a front of the trail
pub safe_undo : (t : List Literal) (a b : Literal) (h m n : ℕ) → h ≤ m → m ≤ n → Safe t a b h m → Safe (take n t) a b h m
safe_undo t a b h m n hm mn s =
    let eh : take h (take n t) ≡ take h t = take-take h n t (omega arith) in
    let em : take m (take n t) ≡ take m t = take-take m n t mn in
    record { left = λ f. subst (λ x. Holds x b) (sym em) (s.left (subst (λ x. Fails x a) eh f)); right = λ f. subst (λ x. Holds x a) (sym em) (s.right (subst (λ x. Fails x b) eh f)) }

-- the other watch is true
pub safe_true : (t : List Literal) (a b : Literal) (h : ℕ) → Holds t b → Safe t a b h (length t)
safe_true t a b h k =
    let e : take (length t) t ≡ t = take_all (length t) t (omega arith) in
    record {
      left = λ _. subst (λ x. Holds x b) (sym e) k;
      right = λ f. absurd (true_not_false _ b.positive k (stays_from t h b.variable (not b.positive) f));
    }

-- the false watch moves to a literal that is not false: at any stop
pub safe_move : (t : List Literal) (a b new : Literal) (h m : ℕ) → Fails t a → (Fails t new → ⊥) → Safe t a b h m → Safe t new b h m
safe_move t a b new h m f n s =
    record {
      left = λ k. absurd (n (stays_from t h new.variable (not new.positive) k));
      right = λ k. absurd (true_not_false _ a.positive (stays_from t m a.variable a.positive (s.right k)) f);
    }

-- a new stop for a clause whose watch moves: the new watch is not false, and the other was not false before
pub safe_move_here : (t : List Literal) (a b new : Literal) (h : ℕ) → (Fails t new → ⊥) → (Fails t b → ⊥) → Safe t new b h (length t)
safe_move_here t a b new h n k = record {
  left = λ q. absurd (n (stays_from t h new.variable (not new.positive) q));
  right = λ q. absurd (k (stays_from t h b.variable (not b.positive) q));
}

-- one literal more is done: a clause that does not watch its negation
pub fails_before : (s : List Literal) (p a : Literal) → (p.variable ≡ a.variable → p.positive ≡ not a.positive → ⊥) → value_in s p.variable ≡ None → Fails (s ++ p ∷ []) a → Fails s a
fails_before s p a u o f = elim (cases_eq p.variable a.variable) [
  | inl same ↦
      let g : Some p.positive ≡ Some (not a.positive) = sym (push_same s p o) ∙ subst (λ v. value_in (s ++ p ∷ []) v ≡ Some (not a.positive)) (sym same) f in
      absurd (u same (grind (arith, g)))
  | inr other ↦ sym (push_other s p a.variable other) ∙ f
]

pub safe_next : (t : List Literal) (a b p : Literal) (h m : ℕ) → take (h + 1) t ≡ take h t ++ p ∷ [] → value_in (take h t) p.variable ≡ None
    → (p.variable ≡ a.variable → p.positive ≡ not a.positive → ⊥) → (p.variable ≡ b.variable → p.positive ≡ not b.positive → ⊥) → Safe t a b h m → Safe t a b (h + 1) m
safe_next t a b p h m e o ua ub s = record {
  left = λ f. s.left (fails_before (take h t) p a ua o (subst (λ x. Fails x a) e f));
  right = λ f. s.right (fails_before (take h t) p b ub o (subst (λ x. Fails x b) e f));
}

pub cases_value : (o : Option Bool) (b : Bool) → (o ≡ Some b) ⊎ ((o ≡ Some (not b)) ⊎ (o ≡ None))
cases_value None b = inr (inr refl)
cases_value (Some true) true = inl refl
cases_value (Some false) false = inl refl
cases_value (Some true) false = inr (inl refl)
cases_value (Some false) true = inr (inl refl)

-- where the queue is done, a clause with two safe watches is quiet
pub safe_quiet : (t c : List Literal) (i j : ℕ) (a b : Literal) → i < length c → j < length c → a ≡ get_or c i a → b ≡ get_or c j b → a ≢ b
    → Safe t a b (length t) (length t) → Looks t c look.Quiet
safe_quiet t c i j a b wi wj ea eb u s =
    let e : take (length t) t ≡ t = take_all (length t) t (omega arith) in
    let fa : Fails t a → Holds t b = λ f. subst (λ x. Holds x b) e (s.left (subst (λ x. Fails x a) (sym e) f)) in
    let fb : Fails t b → Holds t a = λ f. subst (λ x. Holds x a) e (s.right (subst (λ x. Fails x b) (sym e) f)) in
    elim (cases_value (value_in t a.variable) a.positive) [
      | inl good ↦ quiet_true t c i a wi ea good
      | inr rest ↦ elim rest [
        | inl bad ↦ quiet_true t c j b wj eb (fa bad)
        | inr free ↦ elim (cases_value (value_in t b.variable) b.positive) [
          | inl good ↦ quiet_true t c j b wj eb good
          | inr rest2 ↦ elim rest2 [
            | inl bad ↦ quiet_true t c i a wi ea (fb bad)
            | inr free2 ↦ (
              λ r. open_not_false _ (not a.positive) free (subst (Fails t) (sym ea) (r i a wi)),
              λ l k. forces_not t c j b l wj eb (λ q. open_not_false _ (not b.positive) free2 q)
                  (λ bl. forces_not t c i a l wi ea (λ q. open_not_false _ (not a.positive) free q) (λ al. u (al ∙ sym bl)) k) k,
            )
          ]
        ]
      ]
    ]

-- two watches that are not false are safe at every stop
pub safe_possible : (t : List Literal) (a b : Literal) (h m : ℕ) → (Fails t a → ⊥) → (Fails t b → ⊥) → Safe t a b h m
safe_possible t a b h m na nb = record {
  left = λ q. absurd (na (stays_from t h a.variable (not a.positive) q));
  right = λ q. absurd (nb (stays_from t h b.variable (not b.positive) q));
}

-- nothing is false before the first literal
pub safe_first : (t : List Literal) (a b : Literal) (m : ℕ) → Safe t a b 0 m
safe_first t a b m = record { left = λ q. absurd (grind (arith, q)); right = λ q. absurd (grind (arith, q)) }

negated_same : (p q : Bool) → not p ≡ not q → p ≡ q
negated_same true true e = refl
negated_same false false e = refl
negated_same true false e = grind arith
negated_same false true e = grind arith

same_by_negated : (a x : Literal) → a ≢ x → (negated a).variable ≡ x.variable → (negated a).positive ≡ not x.positive → ⊥
same_by_negated a x u v p = u (ap (λ n. let r : Literal = record { variable = n; positive = a.positive } in r) v
    ∙ ap (λ q. let r : Literal = record { variable = x.variable; positive = q } in r) (negated_same a.positive x.positive p))

-- one literal more is propagated: it makes neither watch false
pub safe_turn : (t : List Literal) (head : ℕ) (a p q : Literal) (m : ℕ) → Turn t head a → p ≢ a → q ≢ a → Safe t p q head m → Safe t p q (head + 1) m
safe_turn t head a p q m r up uq s =
    safe_next t p q (negated a) head m r.next r.before (same_by_negated a p (λ e. up (sym e))) (same_by_negated a q (λ e. uq (sym e))) s

-- the literal behind the head makes its negation false
pub turn_fails : (t : List Literal) (head : ℕ) (a : Literal) → Turn t head a → Fails t a
turn_fails t head a r =
    stays_from t (head + 1) a.variable (not a.positive) (subst (λ s. value_in s a.variable ≡ Some (not a.positive)) (sym r.next) (push_same (take head t) (negated a) r.before))

pub turn_longer : (t u : List Literal) (head : ℕ) (a : Literal) → Turn t head a → Turn (t ++ u) head a
turn_longer t u head a r = record {
  within = omega (arith, r.within, length-append t u);
  before = rw (take-append-le head t u (omega (arith, r.within))) r.before;
  next = take-append-le (head + 1) t u (omega (arith, r.within)) ∙ r.next ∙ ap (λ s. s ++ negated a ∷ []) (sym (take-append-le head t u (omega (arith, r.within))));
}

-- a list that begins with the old one
pub longer_is : (t u : List Literal) → take (length t) u ≡ t → u ≡ t ++ drop (length t) u
longer_is t u e = sym (take-append-drop (length t) u) ∙ ap (λ s. s ++ drop (length t) u) e

pub turn_kept : (t u : List Literal) (head : ℕ) (a : Literal) → take (length t) u ≡ t → Turn t head a → Turn u head a
turn_kept t u head a e r = subst (λ s. Turn s head a) (sym (longer_is t u e)) (turn_longer t (drop (length t) u) head a r)
