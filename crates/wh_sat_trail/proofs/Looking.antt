use Rattle.std.proofs.Common.{◌≡◌, ◌≢◌, ℕ, ◌+◌, ◌<◌, ◌≤◌, Bool, true, false, not, List, [], ◌∷◌, ◌++◌, length, get_or, take, Option, Some, None, eqb, ◌&&◌, refl, sym, ◌∙◌, ap, subst, ◌⊎◌, inl, inr, arith, tests}
use Rattle.std.proofs.lemmas.List.{take_at, take_all, get_or_push, get_or_default, length_push, take-append-le, get_or_append_left, length-append, take-take, get_or-take, length-take, get_or_at}
use Rattle.std.proofs.lemmas.Bool.{cases_eq, cases_lt}
use Rattle.wh_sat_trail.specs.declared.literal.Literal.{Literal}
use Rattle.wh_sat_trail.specs.declared.look.Look.TheVariants as look
use Rattle.wh_sat_trail.specs.Look.{Looks}
use Rattle.wh_sat_trail.specs.Assignment.{Holds, Fails, Open, AllBelow}
use Rattle.wh_sat_trail.specs.Propagation.{Forces, IsForced, Grows, Within}
use mathlib.Core.Bool.{beq}

beq_same : (a b : Bool) → beq a b ≡ true → a ≡ b
beq_same true true e = refl
beq_same false false e = refl
beq_same true false e = grind arith
beq_same false true e = grind arith

pub beq_refl : (b : Bool) → beq b b ≡ true
beq_refl true = refl
beq_refl false = refl

pub record One (t c : List Literal) (n : ℕ) (l : Literal) : Type 0 where
  pub free : Open t l
  pub place : ℕ
  pub within : place < n
  pub is : (d : Literal) → get_or c place d ≡ l
  pub others : (i : ℕ) (d : Literal) → i < n → get_or c i d ≢ l → Fails t (get_or c i d)

-- what the first n literals of a clause say
abbrev pub Scan : List Literal → List Literal → ℕ → Option Literal → Type 0
Scan t c n None = (i : ℕ) (d : Literal) → i < n → Fails t (get_or c i d)
Scan t c n (Some l) = One t c n l

not_both : (b : Bool) → b ≡ not b → ⊥
not_both true e = grind arith
not_both false e = grind arith

pub true_not_false : (o : Option Bool) (b : Bool) → o ≡ Some b → o ≡ Some (not b) → ⊥
true_not_false o b h k = let e : Some b ≡ Some (not b) = sym h ∙ k in not_both b (grind (arith, e))

pub open_not_false : (o : Option Bool) (b : Bool) → o ≡ None → o ≡ Some b → ⊥
open_not_false o b h k = let e : None ≡ Some b = sym h ∙ k in grind (arith, e)

pub scan_false : (t c : List Literal) (n : ℕ) (o : Option Literal) (x : Literal) → Scan t c n o → n < length c → x ≡ get_or c n x → Fails t x → Scan t c (n + 1) o
scan_false t c n None x h w e f = λ i d q. elim (cases_eq i n) [
  | inl same ↦ subst (λ j. Fails t (get_or c j d)) (sym same) (subst (Fails t) (e ∙ get_or_default c n x d w) f)
  | inr other ↦ h i d (omega (arith, other, q))
]
scan_false t c n (Some l) x h w e f = record {
  free = h.free;
  place = h.place;
  within = omega (arith, h.within);
  is = h.is;
  others = λ i d q u. elim (cases_eq i n) [
    | inl same ↦ subst (λ j. Fails t (get_or c j d)) (sym same) (subst (Fails t) (e ∙ get_or_default c n x d w) f)
    | inr other ↦ h.others i d (omega (arith, other, q)) u
  ];
}

pub scan_open : (t c : List Literal) (n : ℕ) (x : Literal) → Scan t c n None → n < length c → x ≡ get_or c n x → Open t x → Scan t c (n + 1) (Some x)
scan_open t c n x h w e f = record {
  free = f;
  place = n;
  within = omega arith;
  is = λ d. get_or_default c n d x w ∙ sym e;
  others = λ i d q u. elim (cases_eq i n) [
    | inl same ↦ absurd (u (subst (λ j. get_or c j d ≡ x) (sym same) (get_or_default c n d x w ∙ sym e)))
    | inr other ↦ h i d (omega (arith, other, q))
  ];
}

pub scan_same : (t c : List Literal) (n : ℕ) (m x : Literal) → Scan t c n (Some m) → m ≡ x → n < length c → x ≡ get_or c n x → Scan t c (n + 1) (Some m)
scan_same t c n m x h s w e = record {
  free = h.free;
  place = h.place;
  within = omega (arith, h.within);
  is = h.is;
  others = λ i d q u. elim (cases_eq i n) [
    | inl same ↦ absurd (u (subst (λ j. get_or c j d ≡ m) (sym same) (get_or_default c n d x w ∙ sym e ∙ sym s)))
    | inr other ↦ h.others i d (omega (arith, other, q)) u
  ];
}

-- a literal that is not false and forced by the clause is the one that the clause forces
pub forces_not : (t c : List Literal) (n : ℕ) (x l : Literal) → n < length c → x ≡ get_or c n x → (Fails t x → ⊥) → (x ≡ l → ⊥) → Forces t c l → ⊥
forces_not t c n x l w e f u k =
    f (subst (Fails t) (sym e) (k.others n x w (λ q. u (e ∙ q))))

pub quiet_true : (t c : List Literal) (n : ℕ) (x : Literal) → n < length c → x ≡ get_or c n x → Holds t x → Looks t c look.Quiet
quiet_true t c n x w e f = (
  λ r. true_not_false _ x.positive f (subst (Fails t) (sym e) (r n x w)),
  λ l k. forces_not t c n x l w e (λ q. true_not_false _ x.positive f q) (λ q. open_not_false _ x.positive (subst (Open t) (sym q) k.free) f) k,
)

pub quiet_two : (t c : List Literal) (n : ℕ) (m x : Literal) → Scan t c n (Some m) → n < length c → x ≡ get_or c n x → Open t x → m ≢ x → Looks t c look.Quiet
quiet_two t c n m x h w e f u =
    let pw : h.place < length c = omega (arith, h.within, w) in (
      λ r. open_not_false _ (not x.positive) f (subst (Fails t) (sym e) (r n x w)),
      λ l k. forces_not t c n x l w e (λ q. open_not_false _ (not x.positive) f q) (λ xl. forces_not t c h.place m l pw (sym (h.is m)) (λ q. open_not_false _ (not m.positive) h.free q) (λ ml. u (ml ∙ sym xl)) k) k,
    )

pub scan_all_none : (t c : List Literal) (n : ℕ) → length c ≤ n → Scan t c n None → Looks t c look.Refuted
scan_all_none t c n w h i d q = h i d (omega arith)

pub scan_all_some : (t c : List Literal) (n : ℕ) (l : Literal) → n ≡ length c → Scan t c n (Some l) → Looks t c (look.Forces l)
scan_all_some t c n l w h = record {
  free = h.free;
  place = h.place;
  within = omega (arith, h.within, w);
  is = h.is;
  others = λ i d q u. h.others i d (omega (arith, q, w)) u;
}

pub grows_same : (clauses : List (List Literal)) (t : List Literal) → Grows clauses t t
grows_same clauses t = record { kept = take_all (length t) t (omega arith); forced = λ k d a b. absurd (omega arith) }

pub grows_push : (clauses : List (List Literal)) (s t : List Literal) (l : Literal) → Grows clauses s t → length s ≤ length t → IsForced clauses t l → Grows clauses s (t ++ l ∷ [])
grows_push clauses s t l h le f = record {
  kept = take-append-le (length s) t (l ∷ []) le ∙ h.kept;
  forced = λ k d a b. elim (cases_eq k (length t)) [
    | inl same ↦ subst (λ j. IsForced clauses (take j (t ++ l ∷ [])) (get_or (t ++ l ∷ []) j d)) (sym same)
        (subst (λ u. IsForced clauses u (get_or (t ++ l ∷ []) (length t) d)) (sym (take_at t (l ∷ []) (length t) refl))
        (subst (IsForced clauses t) (sym (get_or_push t l d (length t) refl)) f))
    | inr other ↦
        let w' : k < length t = omega (arith, length_push t l, other, b) in
        subst (λ u. IsForced clauses u (get_or (t ++ l ∷ []) k d)) (sym (take-append-le k t (l ∷ []) (omega arith)))
        (subst (λ m. IsForced clauses (take k t) m) (sym (get_or_append_left t (l ∷ []) d k w')) (h.forced k d a w'))
  ];
}

abbrev same_test : Literal → Literal → Bool
same_test a b = eqb a.variable b.variable && beq a.positive b.positive

pub lit_same : (a b : Literal) → false ≡ not (same_test a b) → a ≡ b
lit_same a b e =
    let v : a.variable ≡ b.variable = grind (arith, tests, e) in
    let p : a.positive ≡ b.positive = beq_same a.positive b.positive (grind (arith, tests, e)) in
    ap (λ n. let r : Literal = record { variable = n; positive = a.positive } in r) v ∙ ap (λ q. let r : Literal = record { variable = b.variable; positive = q } in r) p

pub lit_other : (a b : Literal) → true ≡ not (same_test a b) → a ≢ b
lit_other a b e q =
    let s : true ≡ not (same_test b b) = subst (λ x. true ≡ not (same_test x b)) q e in
    let r : beq b.positive b.positive ≡ true = beq_refl b.positive in
    let v : eqb b.variable b.variable ≡ true = grind (arith, tests) in
    grind (arith, tests, s, r, v)

cases_positive : (a b : Bool) → (a ≡ b) ⊎ (a ≢ b)
cases_positive true true = inl refl
cases_positive false false = inl refl
cases_positive true false = inr (λ e. grind arith)
cases_positive false true = inr (λ e. grind arith)

-- two literals are one or two
pub cases_literal : (a b : Literal) → (a ≡ b) ⊎ (a ≢ b)
cases_literal a b = elim (cases_eq a.variable b.variable) [
  | inl v ↦ elim (cases_positive a.positive b.positive) [
    | inl p ↦ inl (ap (λ n. let r : Literal = record { variable = n; positive = a.positive } in r) v ∙ ap (λ q. let r : Literal = record { variable = b.variable; positive = q } in r) p)
    | inr q ↦ inr (λ e. q (ap (λ l. l.positive) e))
  ]
  | inr u ↦ inr (λ e. u (ap (λ l. l.variable) e))
]

pub within_push : (n : ℕ) (clauses : List (List Literal)) (c : List Literal) → Within n clauses → AllBelow n c → Within n (clauses ++ c ∷ [])
within_push n clauses c w b k v = elim (cases_eq k (length clauses)) [
  | inl same ↦ rw (get_or_push clauses c [] k (sym same)) b
  | inr other ↦ let u : k < length clauses = omega (arith, length_push clauses c, other, v) in rw (get_or_append_left clauses (c ∷ []) [] k u) (w k u)
]

-- growth after growth
pub grows_trans : (clauses : List (List Literal)) (s t u : List Literal) → length s ≤ length t → Grows clauses s t → Grows clauses t u → Grows clauses s u
grows_trans clauses s t u le f g = record {
  kept = sym (take-take (length s) (length t) u le) ∙ ap (take (length s)) g.kept ∙ f.kept;
  forced = λ k d a b. elim (cases_lt k (length t)) [
    | inl early ↦
        let e : take k t ≡ take k u = ap (take k) (sym g.kept) ∙ take-take k (length t) u (omega (arith, early)) in
        let v : get_or t k d ≡ get_or u k d = ap (λ y. get_or y k d) (sym g.kept) ∙ get_or-take (length t) u k d early in
        subst (λ x. IsForced clauses x (get_or u k d)) e (subst (IsForced clauses (take k t)) v (f.forced k d a early))
    | inr late ↦ g.forced k d late b
  ];
}

pub grows_longer : (clauses : List (List Literal)) (s t : List Literal) → Grows clauses s t → length s ≤ length t
grows_longer clauses s t g = omega (arith, ap length g.kept, length-take (length s) t)

-- the next clause of a list whose clauses lie below a number
pub next_below : (n : ℕ) (done rest : List (List Literal)) (c : List Literal) → Within n (done ++ c ∷ rest) → AllBelow n c
next_below n done rest c w = subst (AllBelow n) (get_or_at done c rest [] (length done) refl) (w (length done) (omega (arith, length-append done (c ∷ rest))))

-- growth after growth, over a formula that has stayed
pub grows_on : (clauses after : List (List Literal)) (s t u : List Literal) → after ≡ clauses → Grows clauses s t → Grows after t u → Grows clauses s u
grows_on clauses after s t u e f g = grows_trans clauses s t u (grows_longer clauses s t f) f (subst (λ x. Grows x t u) e g)

-- a forced literal stands in a clause
pub forced_below : (n : ℕ) (clauses : List (List Literal)) (t : List Literal) (l : Literal) → Within n clauses → IsForced clauses t l → l.variable < n
forced_below n clauses t l w f = subst (λ m. m.variable < n) (f.forces.is l) (w f.clause f.known f.forces.place l f.forces.within)
