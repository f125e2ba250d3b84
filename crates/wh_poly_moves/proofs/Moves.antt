-- Lists of moves to which one is added, or in which the amount of one changes.
use Rattle.std.proofs.Common.{◌≡◌, ℕ, zero, suc, ◌+◌, ◌<◌, ◌≤◌, ◌==◌, inl, inr, if◌then◌else◌, List, [], ◌∷◌, ◌++◌, ◌⊎◌, length, get_or, set, refl, ap, sym, subst, ◌∙◌, arith}
use Rattle.std.specs.List.{All}
use Rattle.std.proofs.lemmas.List.{get_or-set_same, get_or-set_other, length-set, length_push, get_or_append_left, map-append, map-set}
use Rattle.std.proofs.lemmas.List.Elements.{All-head, All-tail, All-nil, All-push, All-set, All-get_or}
use Rattle.std.proofs.lemmas.Bool.{cases_eq}
use Rattle.wh_poly.specs.Polynomials.{Polynomial}
use Rattle.wh_hopoly.specs.Moves.{Transfer, Good}
use Rattle.wh_poly.specs.declared.polynomial.Monomial.{Monomial}
use Rattle.wh_hopoly.specs.declared.expression.Move.{Move}
use Rattle.wh_poly.specs.Erase.{sum_of}
use Rattle.wh_hopoly.specs.Erase.{transfer, transfers}
use Rattle.wh_poly_moves.specs.Flows.{AreDistinct, AreKeptBut, NoneBetween, CanGive, move_at}
use Rattle.wh_poly_moves.proofs.Units.{units_push, units_set}
use Rattle.wh_polycheck.proofs.AmountWalk.{if_other, if_same}
use Rattle.wh_poly_moves.proofs.Changes.{AddTo}

-- a move of the given kind with another amount
abbrev pub with_amount : Transfer → ℕ → Transfer
with_amount m a = record { from = m.from; to = m.to; amount = a }

-- the amount of a good move does not matter
pub good_any : (p q : Polynomial) (m : Transfer) (a : ℕ) → Good p q m → Good p q (with_amount m a)
good_any p q m a g = record { given = g.given; taken = g.taken; giver = g.giver; taker = g.taker; source = g.source; target = g.target; fits = g.fits }

pub good_push : (left right : List Monomial) (ms : List Transfer) (i j a : ℕ) → All (Good (sum_of left) (sum_of right)) ms → CanGive left right i j
    → All (Good (sum_of left) (sum_of right)) (ms ++ record { from = i; to = j; amount = a } ∷ [])
good_push left right ms i j a all g = All-push (Good (sum_of left) (sum_of right)) ms (record { from = i; to = j; amount = a }) all
    (good_any (sum_of left) (sum_of right) (record { from = i; to = j; amount = 0 }) a g)

pub good_set : (p q : Polynomial) (ms : List Transfer) (e a : ℕ) → e < length ms → All (Good p q) ms → All (Good p q) (set ms e (with_amount (move_at ms e) a))
good_set p q ms e a h all = All-set (Good p q) ms e (with_amount (move_at ms e) a)
    (good_any p q (move_at ms e) a (All-get_or (Good p q) ms e (record { from = 0; to = 0; amount = 0 }) h all)) all

pub distinct_push : (ms : List Transfer) (i j a : ℕ) → AreDistinct ms → NoneBetween i j ms → AreDistinct (ms ++ record { from = i; to = j; amount = a } ∷ [])
distinct_push [] i j a d n = (All-nil (λ m. m.from ≡ i → m.to ≡ j → ⊥), tt)
distinct_push (m ∷ ms) i j a d n = (
  All-push (λ o. o.from ≡ m.from → o.to ≡ m.to → ⊥) ms (record { from = i; to = j; amount = a }) d.0
      (λ e f. All-head (λ m. m.from ≡ i → m.to ≡ j → ⊥) m ms n (sym e) (sym f)),
  distinct_push ms i j a d.1 (All-tail (λ m. m.from ≡ i → m.to ≡ j → ⊥) m ms n),
)

pub distinct_set : (ms : List Transfer) (e a : ℕ) → e < length ms → AreDistinct ms → AreDistinct (set ms e (with_amount (move_at ms e) a))
distinct_set [] e a h d = absurd (omega (arith, h))
distinct_set (m ∷ ms) zero a h d = d
distinct_set (m ∷ ms) (suc e) a h d = (
  All-set (λ o. o.from ≡ m.from → o.to ≡ m.to → ⊥) ms e (with_amount (move_at ms e) a)
      (All-get_or (λ o. o.from ≡ m.from → o.to ≡ m.to → ⊥) ms e (record { from = 0; to = 0; amount = 0 }) (omega (arith, h)) d.0) d.0,
  distinct_set ms e a (omega (arith, h)) d.1,
)

pub add_push : (ms : List Transfer) (i j a : ℕ) → AddTo i j a ms (ms ++ record { from = i; to = j; amount = a } ∷ [])
add_push ms i j a = record {
  from = λ k. units_push (λ m. m.from) k ms (record { from = i; to = j; amount = a });
  to = λ k. units_push (λ m. m.to) k ms (record { from = i; to = j; amount = a });
}

more_at : (x k b d n u v : ℕ) → v + (if x == k then b else 0) ≡ u + (if x == k then n else 0) → n ≡ b + d → v ≡ u + (if x == k then d else 0)
more_at x k b d n u v e f = elim (cases_eq x k) [
  | inl same ↦ let p = if_same x k b 0 same in let q = if_same x k n 0 same in let r = if_same x k d 0 same in omega (arith, p, q, r, e, f)
  | inr other ↦ let p = if_other x k b 0 other in let q = if_other x k n 0 other in let r = if_other x k d 0 other in omega (arith, p, q, r, e)
]

pub add_set : (ms : List Transfer) (e d n : ℕ) → e < length ms → n ≡ (move_at ms e).amount + d
    → AddTo (move_at ms e).from (move_at ms e).to d ms (set ms e (with_amount (move_at ms e) n))
add_set ms e d n h f = record {
  from = λ k. more_at (move_at ms e).from k (move_at ms e).amount d n _ _ (units_set (λ m. m.from) k ms e (with_amount (move_at ms e) n) (record { from = 0; to = 0; amount = 0 }) h) f;
  to = λ k. more_at (move_at ms e).to k (move_at ms e).amount d n _ _ (units_set (λ m. m.to) k ms e (with_amount (move_at ms e) n) (record { from = 0; to = 0; amount = 0 }) h) f;
}

less_at : (x k b d n u v : ℕ) → v + (if x == k then b else 0) ≡ u + (if x == k then n else 0) → b ≡ n + d → u ≡ v + (if x == k then d else 0)
less_at x k b d n u v e f = elim (cases_eq x k) [
  | inl same ↦ let p = if_same x k b 0 same in let q = if_same x k n 0 same in let r = if_same x k d 0 same in omega (arith, p, q, r, e, f)
  | inr other ↦ let p = if_other x k b 0 other in let q = if_other x k n 0 other in let r = if_other x k d 0 other in omega (arith, p, q, r, e)
]

pub add_unset : (ms : List Transfer) (e d n : ℕ) → e < length ms → (move_at ms e).amount ≡ n + d
    → AddTo (move_at ms e).from (move_at ms e).to d (set ms e (with_amount (move_at ms e) n)) ms
add_unset ms e d n h f = record {
  from = λ k. less_at (move_at ms e).from k (move_at ms e).amount d n _ _ (units_set (λ m. m.from) k ms e (with_amount (move_at ms e) n) (record { from = 0; to = 0; amount = 0 }) h) f;
  to = λ k. less_at (move_at ms e).to k (move_at ms e).amount d n _ _ (units_set (λ m. m.to) k ms e (with_amount (move_at ms e) n) (record { from = 0; to = 0; amount = 0 }) h) f;
}

-- what stands at each place afterwards
at_push : (ms : List Transfer) (m : Transfer) (e : ℕ) → e < length ms → move_at (ms ++ m ∷ []) e ≡ move_at ms e
at_push ms m e h = get_or_append_left ms (m ∷ []) (record { from = 0; to = 0; amount = 0 }) e h

pub kept_push : (ms : List Transfer) (m : Transfer) → AreKeptBut (λ e. ⊥) ms (ms ++ m ∷ [])
kept_push ms m = record {
  long = let e = length_push ms m in omega (arith, e);
  from = λ e h. ap (λ m. m.from) (at_push ms m e h);
  to = λ e h. ap (λ m. m.to) (at_push ms m e h);
  amount = λ e h _. let a = ap (λ m. m.amount) (at_push ms m e h) in omega (arith, a);
}

at_set : (ms : List Transfer) (e n k : ℕ) → e < length ms
    → (k ≡ e × (move_at (set ms e (with_amount (move_at ms e) n)) k ≡ with_amount (move_at ms k) n)) ⊎ ((k ≡ e → ⊥) × (move_at (set ms e (with_amount (move_at ms e) n)) k ≡ move_at ms k))
at_set ms e n k h = elim (cases_eq k e) [
  | inl same ↦ inl (
    same,
    subst (λ k. move_at (set ms e (with_amount (move_at ms e) n)) k ≡ with_amount (move_at ms k) n) (sym same)
        (get_or-set_same ms e (with_amount (move_at ms e) n) (record { from = 0; to = 0; amount = 0 }) h),
  )
  | inr other ↦ inr (other, get_or-set_other ms e k (with_amount (move_at ms e) n) (record { from = 0; to = 0; amount = 0 }) other)
]

-- with more at a place, and with less there
pub kept_set_more : (ms : List Transfer) (e n : ℕ) → e < length ms → (move_at ms e).amount ≤ n → AreKeptBut (λ k. ⊥) ms (set ms e (with_amount (move_at ms e) n))
kept_set_more ms e n h l = record {
  long = let x = length-set ms e (with_amount (move_at ms e) n) in omega (arith, x);
  from = λ k b. elim (at_set ms e n k h) [ inl (same, is) ↦ ap (λ m. m.from) is | inr (other, is) ↦ ap (λ m. m.from) is ];
  to = λ k b. elim (at_set ms e n k h) [ inl (same, is) ↦ ap (λ m. m.to) is | inr (other, is) ↦ ap (λ m. m.to) is ];
  amount = λ k b _. elim (at_set ms e n k h) [
    | inl (same, is) ↦ let a = ap (λ m. m.amount) is in let c = ap (λ k. (move_at ms k).amount) same in omega (arith, a, c, l)
    | inr (other, is) ↦ let a = ap (λ m. m.amount) is in omega (arith, a)
  ];
}

pub kept_set_less : (ms : List Transfer) (e n : ℕ) → e < length ms → AreKeptBut (λ k. k ≡ e) ms (set ms e (with_amount (move_at ms e) n))
kept_set_less ms e n h = record {
  long = let x = length-set ms e (with_amount (move_at ms e) n) in omega (arith, x);
  from = λ k b. elim (at_set ms e n k h) [ inl (same, is) ↦ ap (λ m. m.from) is | inr (other, is) ↦ ap (λ m. m.from) is ];
  to = λ k b. elim (at_set ms e n k h) [ inl (same, is) ↦ ap (λ m. m.to) is | inr (other, is) ↦ ap (λ m. m.to) is ];
  amount = λ k b no. elim (at_set ms e n k h) [
    | inl (same, is) ↦ absurd (no same)
    | inr (other, is) ↦ let a = ap (λ m. m.amount) is in omega (arith, a)
  ];
}

pub kept_then : (lessened : ℕ → Type 0) (ms ns os : List Transfer) → AreKeptBut lessened ms ns → AreKeptBut (λ e. ⊥) ns os → AreKeptBut lessened ms os
kept_then lessened ms ns os k l = record {
  long = let a = k.long in let b = l.long in omega (arith, a, b);
  from = λ e h. l.from e (let a = k.long in omega (arith, a, h)) ∙ k.from e h;
  to = λ e h. l.to e (let a = k.long in omega (arith, a, h)) ∙ k.to e h;
  amount = λ e h no. let a = k.amount e h no in let b = l.amount e (let a = k.long in omega (arith, a, h)) (λ z. z) in omega (arith, a, b);
}

-- the same of the program's lists
pub transfers_push : (xs : List Move) (x : Move) → transfers (xs ++ x ∷ []) ≡ transfers xs ++ transfer x ∷ []
transfers_push xs x = map-append transfer xs (x ∷ [])

pub move_here : (xs : List Move) (e : ℕ) (x : Move) → e < length xs → x ≡ get_or xs e x → move_at (transfers xs) e ≡ transfer x
move_here [] e x h k = absurd (omega (arith, h))
move_here (y ∷ xs) zero x h k = ap transfer (sym k)
move_here (y ∷ xs) (suc e) x h k = move_here xs e x (omega (arith, h)) k

pub transfers_long : (xs : List Move) → length (transfers xs) ≡ length xs
transfers_long [] = refl
transfers_long (x ∷ xs) = let e = transfers_long xs in omega (arith, e)

pub transfers_set : (xs : List Move) (e : ℕ) (x : Move) (n : ℕ) → e < length xs → x ≡ get_or xs e x
    → transfers (set xs e (record { from = x.from; to = x.to; amount = n })) ≡ set (transfers xs) e (with_amount (move_at (transfers xs) e) n)
transfers_set xs e x n h k = map-set transfer xs e (record { from = x.from; to = x.to; amount = n })
    ∙ ap (λ m. set (transfers xs) e (with_amount m n)) (sym (move_here xs e x h k))

pub move_read : (xs : List Move) (e : ℕ) → move_at (transfers xs) e ≡ transfer (get_or xs e (record { from = 0; to = 0; amount = 0 }))
move_read [] e = refl
move_read (x ∷ xs) zero = refl
move_read (x ∷ xs) (suc e) = move_read xs e
