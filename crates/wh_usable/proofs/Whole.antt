-- All numbers below a bound are an increasing list, and increasing numbers below it, as many as there are, are all of them.
use Rattle.std.proofs.Common.{◌≡◌, ℕ, zero, suc, ◌+◌, ◌<◌, ◌≤◌, List, [], ◌∷◌, length, All, refl, ap, ap₂, ◌∙◌, arith}
use Rattle.wh_pairs.specs.PairData.{IsIncreasing}
use Rattle.wh_reduction_pairs.specs.TaskData.{numbers_from}
use Rattle.wh_reduction_pairs.proofs.Numbers.{numbers_length, numbers_within}
use Rattle.wh_usable.specs.Closed.{AreRulesInOrder}

numbers_increase : (n k : ℕ) → IsIncreasing (numbers_from n k)
numbers_increase n zero = tt
numbers_increase n (suc zero) = tt
numbers_increase n (suc (suc k)) = (omega arith, numbers_increase (suc n) (suc k))

pub all_in_order : (count : ℕ) → AreRulesInOrder count (numbers_from 0 count)
all_in_order count = (numbers_increase 0 count, numbers_within count)

-- the numbers rise from a on and end before b
abbrev Between : ℕ → ℕ → List ℕ → Type 0
Between a b [] = a ≤ b
Between a b (n ∷ ns) = (a ≤ n) × Between (suc n) b ns

between : (n : ℕ) (ns : List ℕ) (a b : ℕ) → a ≤ n → IsIncreasing (n ∷ ns) → All (λ m. m < b) (n ∷ ns) → Between a b (n ∷ ns)
between n [] a b le up below = let less = below 0 0 (omega arith) in (le, omega (arith, less))
between n (m ∷ ms) a b le up below = let less = up.0 in
    (le, between m ms (suc n) b (omega (arith, less)) up.1 (λ i d within. below (suc i) d (omega (arith, within))))

spans : (ns : List ℕ) (a b : ℕ) → Between a b ns → a + length ns ≤ b
spans [] a b h = omega (arith, h)
spans (n ∷ ns) a b h = let le = h.0 in let rest = spans ns (suc n) b h.1 in omega (arith, le, rest)

fill : (ns : List ℕ) (a b : ℕ) → Between a b ns → a + length ns ≡ b → ns ≡ numbers_from a (length ns)
fill [] a b h all = refl
fill (n ∷ ns) a b h all =
    let le = h.0 in
    let rest = spans ns (suc n) b h.1 in
    let same : n ≡ a = omega (arith, le, rest, all) in
    let end : suc n + length ns ≡ b = omega (arith, all, same) in
    ap₂ (λ m ms. m ∷ ms) same (fill ns (suc n) b h.1 end ∙ ap (λ m. numbers_from (suc m) (length ns)) same)

pub all_numbers : (ns : List ℕ) (k : ℕ) → IsIncreasing ns → All (λ n. n < k) ns → length ns ≡ k → ns ≡ numbers_from 0 k
all_numbers [] k up below all = ap (numbers_from 0) all
all_numbers (n ∷ ns) k up below all =
    let end : 0 + length (n ∷ ns) ≡ k = omega (arith, all) in
    fill (n ∷ ns) 0 k (between n ns 0 k (omega arith) up below) end ∙ ap (numbers_from 0) all

pub fewer_numbers : (ns : List ℕ) (k : ℕ) → (length ns ≡ k → ⊥) → ns ≡ numbers_from 0 k → ⊥
fewer_numbers ns k fewer all = fewer (ap (λ (l : List ℕ). length l) all ∙ numbers_length 0 k)
