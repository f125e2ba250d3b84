-- Comparisons, bit by bit.
use Rattle.std.proofs.Common.{◌≡◌, ℕ, ◌+◌, ◌*◌, ◌<◌, ◌≤◌, Bool, true, false, not, ◌&&◌, ◌||◌, nat_lt, List, length, get_or, drop, sym, ◌∙◌, ap, inl, inr, arith, tests}
use Rattle.std.proofs.lemmas.Bool.{cases_lt, lt-ltb, le-ltb}
use Rattle.std.proofs.lemmas.List.{at_drop_more}
use Rattle.wh_sat_trail.specs.declared.literal.Literal.{Literal}
use Rattle.wh_sat.specs.Solving.{literal_true}
use Rattle.wh_circuit.specs.Values.{bit, number_of}

lt_same : (p q r s : ℕ) → (p < q → r < s) → (q ≤ p → s ≤ r) → nat_lt p q ≡ nat_lt r s
lt_same p q r s f g = elim (cases_lt p q) [
  | inl w ↦ lt-ltb p q w ∙ sym (lt-ltb r s (f w))
  | inr w ↦ le-ltb p q w ∙ sym (le-ltb r s (g w))
]

-- where two bits are alike, the lower ones decide
pub compare_more : (a b l : Bool) (x y : ℕ) → nat_lt (bit b + 2 * y) (bit a + 2 * x + bit l) ≡ nat_lt y (x + bit (a && not b || (a || not b) && l))
compare_more true true true x y = lt_same (1 + 2 * y) (1 + 2 * x + 1) y (x + 1) (λ w. omega (arith, w)) (λ w. omega (arith, w))
compare_more true true false x y = lt_same (1 + 2 * y) (1 + 2 * x + 0) y (x + 0) (λ w. omega (arith, w)) (λ w. omega (arith, w))
compare_more true false true x y = lt_same (0 + 2 * y) (1 + 2 * x + 1) y (x + 1) (λ w. omega (arith, w)) (λ w. omega (arith, w))
compare_more true false false x y = lt_same (0 + 2 * y) (1 + 2 * x + 0) y (x + 1) (λ w. omega (arith, w)) (λ w. omega (arith, w))
compare_more false true true x y = lt_same (1 + 2 * y) (0 + 2 * x + 1) y (x + 0) (λ w. omega (arith, w)) (λ w. omega (arith, w))
compare_more false true false x y = lt_same (1 + 2 * y) (0 + 2 * x + 0) y (x + 0) (λ w. omega (arith, w)) (λ w. omega (arith, w))
compare_more false false true x y = lt_same (0 + 2 * y) (0 + 2 * x + 1) y (x + 1) (λ w. omega (arith, w)) (λ w. omega (arith, w))
compare_more false false false x y = lt_same (0 + 2 * y) (0 + 2 * x + 0) y (x + 0) (λ w. omega (arith, w)) (λ w. omega (arith, w))

pub compared_all : (a b : ℕ) (l : Bool) → nat_lt 0 (0 + bit l) ≡ nat_lt b (a + 1) → l ≡ not (nat_lt a b)
compared_all a b true e = elim (cases_lt a b) [
  | inl w ↦ absurd (grind (arith, tests, e, w))
  | inr w ↦ sym (ap not (le-ltb a b w))
]
compared_all a b false e = elim (cases_lt a b) [
  | inl w ↦ sym (ap not (lt-ltb a b w))
  | inr w ↦ absurd (grind (arith, tests, e, w))
]

pub compared_more : (v : ℕ → Bool) (a b : List Literal) (i : ℕ) (d lower made : Literal) → i < length a → i < length b
    → literal_true v made ≡ (literal_true v (get_or a i d) && not (literal_true v (get_or b i d)) || (literal_true v (get_or a i d) || not (literal_true v (get_or b i d))) && literal_true v lower)
    → nat_lt (number_of v (drop (i + 1) b)) (number_of v (drop (i + 1) a) + bit (literal_true v made)) ≡ nat_lt (number_of v (drop i b)) (number_of v (drop i a) + bit (literal_true v lower))
compared_more v a b i d lower made in_a in_b e =
    let x = number_of v (drop (i + 1) a) in
    let y = number_of v (drop (i + 1) b) in
    let l = literal_true v lower in
    let p = literal_true v (get_or a i d) in
    let q = literal_true v (get_or b i d) in
    ap (λ r. nat_lt y (x + bit r)) e ∙ sym (compare_more p q l x y)
    ∙ ap (λ n. nat_lt (bit q + 2 * y) (n + bit l)) (sym (at_drop_more (number_of v) a i d in_a)) ∙ ap (λ n. nat_lt n (number_of v (drop i a) + bit l)) (sym (at_drop_more (number_of v) b i d in_b))
