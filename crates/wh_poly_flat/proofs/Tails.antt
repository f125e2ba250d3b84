-- What the arguments that are still to come add.
use Rattle.std.proofs.Common.{◌≡◌, ℕ, zero, suc, ◌+◌, ◌*◌, ◌≤◌, nat_lt, if◌then◌else◌, Bool, true, false, List, [], get_or, refl, ap₂, arith}
use Rattle.wh_poly_space.specs.Coefficients.{capped}
use Rattle.wh_poly_flat.specs.Worth.{coefficient}

-- the sum of the first weights
abbrev pub sum_to : ℕ → (ℕ → ℕ) → ℕ
sum_to zero u = 0
sum_to (suc k) u = u 0 + sum_to k (λ i. u (suc i))

-- the same, each with the coefficient of its argument; j arguments stand there already
abbrev pub tail : List (List ℕ) → ℕ → ℕ → ℕ → (ℕ → ℕ) → ℕ
tail lists f j zero u = 0
tail lists f j (suc k) u = coefficient lists f (suc j) * u 0 + tail lists f (suc j) k (λ i. u (suc i))

pub sum_alike : (k : ℕ) (u w : ℕ → ℕ) → ((i : ℕ) → u i ≡ w i) → sum_to k u ≡ sum_to k w
sum_alike zero u w alike = refl
sum_alike (suc k) u w alike = ap₂ (λ a b. a + b) (alike 0) (sum_alike k (λ i. u (suc i)) (λ i. w (suc i)) (λ i. alike (suc i)))

pub tail_alike : (lists : List (List ℕ)) (f j k : ℕ) (u w : ℕ → ℕ) → ((i : ℕ) → u i ≡ w i) → tail lists f j k u ≡ tail lists f j k w
tail_alike lists f j zero u w alike = refl
tail_alike lists f j (suc k) u w alike =
    ap₂ (λ a b. coefficient lists f (suc j) * a + b) (alike 0) (tail_alike lists f (suc j) k (λ i. u (suc i)) (λ i. w (suc i)) (λ i. alike (suc i)))

capped_small : (c : ℕ) → capped c ≤ 3
capped_small c = go (nat_lt 3 c) refl
  where
    go : (b : Bool) → nat_lt 3 c ≡ b → (if b then 3 else c) ≤ 3
    go true e = omega arith
    go false e = grind (arith, e)

pub coefficient_small : (lists : List (List ℕ)) (n j : ℕ) → coefficient lists n j ≤ 3
coefficient_small lists n j = capped_small (get_or (get_or lists n []) j 0)

pub tail_small : (lists : List (List ℕ)) (f j k : ℕ) → tail lists f j k (λ i. 1) ≤ 3 * k
tail_small lists f j zero = omega arith
tail_small lists f j (suc k) =
    let a = coefficient_small lists f (suc j) in let b = tail_small lists f (suc j) k in omega (arith, a, b)

pub sum_two : (k : ℕ) → sum_to k (λ i. 2) ≡ 2 * k
sum_two zero = refl
sum_two (suc k) = let e = sum_two k in omega (arith, e)
