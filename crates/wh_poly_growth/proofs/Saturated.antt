-- Sums and products of saturated numbers, at any greatest number m.
use Rattle.std.proofs.Common.{◌≡◌, ℕ, zero, suc, ◌+◌, ◌*◌, ◌<◌, ◌≤◌, min, ◌⊎◌, inl, inr, ap, sym, ◌∙◌, arith}
use Rattle.std.proofs.lemmas.Bool.{cases_lt}

-- a saturated factor, on the right and on the left
pub product_right : (m a b : ℕ) → min (a * min b m) m ≡ min (a * b) m
product_right m a b = go a (cases_lt b m)
  where
    go : (a : ℕ) → (b < m) ⊎ (m ≤ b) → min (a * min b m) m ≡ min (a * b) m
    go a (inl h) = let e : min b m ≡ b = omega (arith, h) in ap (λ n. min (a * n) m) e
    go zero (inr h) = omega arith
    go (suc a) (inr h) =
        let e : min b m ≡ m = omega (arith, h) in
        let k : m ≤ suc a * m = grind arith in
        let l : m ≤ suc a * b = grind (arith, h) in
        let f : min (suc a * m) m ≡ min (suc a * b) m = omega (arith, k, l) in
        ap (λ n. min (suc a * n) m) e ∙ f

product_left : (m a b : ℕ) → min (min a m * b) m ≡ min (a * b) m
product_left m a b = let e : min a m * b ≡ b * min a m = omega arith in
    ap (λ n. min n m) e ∙ product_right m b a ∙ (let f : b * a ≡ a * b = omega arith in ap (λ n. min n m) f)

-- one more part is added
pub added : (m all so_far part rest left next more : ℕ) → min (so_far + rest) m ≡ all → rest ≡ part + left
    → more ≡ min part m → next ≡ min (so_far + more) m → min (next + left) m ≡ all
added m all so_far part rest left next more e f g h = omega (arith, e, f, g, h)

-- one more factor is multiplied in
pub multiplied : (m all so_far value rest left next more : ℕ) → min (so_far * rest) m ≡ all → rest ≡ value * left
    → more ≡ min value m → next ≡ min (so_far * more) m → min (next * left) m ≡ all
multiplied m all so_far value rest left next more e f g h =
    let k : next ≡ min (so_far * value) m = h ∙ ap (λ n. min (so_far * n) m) g ∙ product_right m so_far value in
    let r : so_far * value * left ≡ so_far * (value * left) = omega arith in
    ap (λ n. min (n * left) m) k ∙ product_left m (so_far * value) left ∙ ap (λ n. min n m) r
    ∙ ap (λ n. min (so_far * n) m) (sym f) ∙ e

-- nothing is left
pub all_added : (m all so_far left : ℕ) → so_far ≤ m → min (so_far + left) m ≡ all → left ≡ 0 → so_far ≡ all
all_added m all so_far left h e f = omega (arith, h, e, f)

pub all_multiplied : (m all so_far left : ℕ) → so_far ≤ m → min (so_far * left) m ≡ all → left ≡ 1 → so_far ≡ all
all_multiplied m all so_far left h e f =
    let k : so_far * 1 ≡ so_far = omega arith in
    let r : min (so_far * left) m ≡ min so_far m = ap (λ n. min (so_far * n) m) f ∙ ap (λ n. min n m) k in
    omega (arith, h, e, r)
