-- The units that moves take from the places of a set are those of the moves from that set: two orders of one sum.
use Rattle.std.proofs.Common.{◌≡◌, ℕ, zero, suc, ◌+◌, ◌<◌, ◌≤◌, ◌==◌, inl, inr, Bool, true, false, IsTrue, if◌then◌else◌, cond, List, [], ◌∷◌, refl, ap, subst, ◌∙◌, arith}
use Rattle.std.specs.List.{All}
use Rattle.std.proofs.lemmas.List.Elements.{All-head, All-tail}
use Rattle.std.proofs.lemmas.Bool.{cases_eq}
use Rattle.wh_hopoly.specs.Moves.{Transfer, units_at}
use Rattle.wh_poly_moves.proofs.Units.{share, units_first}
use Rattle.wh_polycheck.proofs.AmountWalk.{if_other, if_same}

-- the sum of f over the places of the set p below n
abbrev pub sum_below : (ℕ → Bool) → (ℕ → ℕ) → ℕ → ℕ
sum_below p f zero = 0
sum_below p f (suc n) = cond (p n) (f n) 0 + sum_below p f n

-- the units of the moves whose place is in the set
abbrev pub total : (ℕ → Bool) → (Transfer → ℕ) → List Transfer → ℕ
total p place [] = 0
total p place (m ∷ ms) = cond (p (place m)) m.amount 0 + total p place ms

cond_at_most : (b : Bool) (x y : ℕ) → (IsTrue b → x ≤ y) → cond b x 0 ≤ cond b y 0
cond_at_most true x y h = h refl
cond_at_most false x y h = omega arith

cond_add : (b : Bool) (x y : ℕ) → cond b (x + y) 0 ≡ cond b x 0 + cond b y 0
cond_add true x y = refl
cond_add false x y = omega arith

pub sum_at_most : (p : ℕ → Bool) (f g : ℕ → ℕ) (n : ℕ) → ((i : ℕ) → IsTrue (p i) → f i ≤ g i) → sum_below p f n ≤ sum_below p g n
sum_at_most p f g zero h = omega arith
sum_at_most p f g (suc n) h = let a = cond_at_most (p n) (f n) (g n) (h n) in let b = sum_at_most p f g n h in omega (arith, a, b)

cond_true : (b : Bool) (x : ℕ) → IsTrue b → cond b x 0 ≡ x
cond_true true x h = refl
cond_true false x h = cc

pub sum_less : (p : ℕ → Bool) (f g : ℕ → ℕ) (n k : ℕ) → ((i : ℕ) → IsTrue (p i) → f i ≤ g i) → k < n → IsTrue (p k) → f k < g k
    → sum_below p f n < sum_below p g n
sum_less p f g zero k h l t s = absurd (omega (arith, l))
sum_less p f g (suc n) k h l t s = elim (cases_eq k n) [
  | inl same ↦
      let b = sum_at_most p f g n h in
      let x = cond_true (p k) (f k) t in let y = cond_true (p k) (g k) t in
      let z : cond (p k) (f k) 0 + sum_below p f n < cond (p k) (g k) 0 + sum_below p g n = omega (arith, b, x, y, s) in
      subst (λ w. cond (p w) (f w) 0 + sum_below p f n < cond (p w) (g w) 0 + sum_below p g n) same z
  | inr other ↦
      let a = cond_at_most (p n) (f n) (g n) (h n) in let b = sum_less p f g n k h (omega (arith, l, other)) t s in omega (arith, a, b)
]

sum_same : (p : ℕ → Bool) (f g : ℕ → ℕ) (n : ℕ) → ((i : ℕ) → f i ≡ g i) → sum_below p f n ≡ sum_below p g n
sum_same p f g zero h = refl
sum_same p f g (suc n) h = let a : cond (p n) (f n) 0 ≡ cond (p n) (g n) 0 = ap (λ x. cond (p n) x 0) (h n) in let b = sum_same p f g n h in omega (arith, a, b)

sum_add : (p : ℕ → Bool) (f g : ℕ → ℕ) (n : ℕ) → sum_below p (λ i. f i + g i) n ≡ sum_below p f n + sum_below p g n
sum_add p f g zero = omega arith
sum_add p f g (suc n) = let a = cond_add (p n) (f n) (g n) in let b = sum_add p f g n in omega (arith, a, b)

cond_zero : (b : Bool) → ◌≡◌ {A = ℕ} (cond b 0 0) 0
cond_zero true = refl
cond_zero false = refl

-- of one move, past its place and at it
sum_before : (p : ℕ → Bool) (k a n : ℕ) → n ≤ k → sum_below p (λ i. if k == i then a else 0) n ≡ 0
sum_before p k a zero h = refl
sum_before p k a (suc n) h =
    let x = if_other k n a 0 (λ e. omega (arith, h, e)) in
    let y : cond (p n) (if k == n then a else 0) 0 ≡ 0 = ap (λ z. cond (p n) z 0) x ∙ cond_zero (p n) in
    let z = sum_before p k a n (omega (arith, h)) in omega (arith, y, z)

sum_of_one : (p : ℕ → Bool) (k a n : ℕ) → k < n → sum_below p (λ i. if k == i then a else 0) n ≡ cond (p k) a 0
sum_of_one p k a zero h = absurd (omega (arith, h))
sum_of_one p k a (suc n) h = elim (cases_eq k n) [
  | inl same ↦
      let x = if_same k k a 0 refl in
      let y : cond (p k) (if k == k then a else 0) 0 ≡ cond (p k) a 0 = ap (λ z. cond (p k) z 0) x in
      let z = sum_before p k a n (omega (arith, same)) in
      let w : cond (p n) (if k == n then a else 0) 0 ≡ cond (p k) a 0 = subst (λ m. cond (p m) (if k == m then a else 0) 0 ≡ cond (p k) a 0) same y in
      omega (arith, w, z)
  | inr other ↦
      let x = if_other k n a 0 other in
      let y : cond (p n) (if k == n then a else 0) 0 ≡ 0 = ap (λ z. cond (p n) z 0) x ∙ cond_zero (p n) in
      let z = sum_of_one p k a n (omega (arith, h, other)) in omega (arith, y, z)
]

sum_of_none : (p : ℕ → Bool) (n : ℕ) → sum_below p (λ i. 0) n ≡ 0
sum_of_none p zero = refl
sum_of_none p (suc n) = let a = cond_zero (p n) in let b = sum_of_none p n in omega (arith, a, b)

-- the sum over places of what moves take there, by moves
pub sum_by_moves : (p : ℕ → Bool) (place : Transfer → ℕ) (n : ℕ) (ms : List Transfer) → All (λ m. place m < n) ms
    → sum_below p (λ i. units_at place i ms) n ≡ total p place ms
sum_by_moves p place n [] h = sum_of_none p n
sum_by_moves p place n (m ∷ ms) h =
    let a = sum_same p (λ i. units_at place i (m ∷ ms)) (λ i. share place i m + units_at place i ms) n (λ i. units_first place i m ms) in
    let b = sum_add p (λ i. share place i m) (λ i. units_at place i ms) n in
    let c = sum_of_one p (place m) m.amount n (All-head (λ m. place m < n) m ms h) in
    let d = sum_by_moves p place n ms (All-tail (λ m. place m < n) m ms h) in
    omega (arith, a, b, c, d)

-- one set of moves within another
pub total_at_most : (p q : ℕ → Bool) (place other : Transfer → ℕ) (ms : List Transfer)
    → All (λ m. 0 < m.amount → IsTrue (p (place m)) → IsTrue (q (other m))) ms → total p place ms ≤ total q other ms
total_at_most p q place other [] h = omega arith
total_at_most p q place other (m ∷ ms) h =
    let a = within (p (place m)) (q (other m)) m.amount (All-head (λ m. 0 < m.amount → IsTrue (p (place m)) → IsTrue (q (other m))) m ms h) in
    let b = total_at_most p q place other ms (All-tail (λ m. 0 < m.amount → IsTrue (p (place m)) → IsTrue (q (other m))) m ms h) in
    omega (arith, a, b)
  where
    within : (b c : Bool) (x : ℕ) → (0 < x → IsTrue b → IsTrue c) → cond b x 0 ≤ cond c x 0
    within false c x h = omega arith
    within true true x h = omega arith
    within true false zero h = omega arith
    within true false (suc x) h = let no = h (omega arith) refl in cc
