-- Numbers of wires.
use Rattle.std.proofs.Common.{◌≡◌, ℕ, zero, suc, ◌+◌, ◌*◌, ◌^◌, ◌<◌, ◌≤◌, ◌&&◌, nat_lt, not, tests, Bool, true, false, List, [], ◌∷◌, ◌++◌, take, refl, ap, sym, arith}
use Rattle.std.proofs.Math.Nat.{pow-suc}
use Rattle.wh_sat_trail.specs.declared.literal.Literal.{Literal}
use Rattle.wh_sat.specs.Solving.{literal_true}
use Rattle.wh_circuit.specs.Values.{all_true, bit, number_of}

pub two_true : (v : ℕ → Bool) (a b : Literal) → all_true v (a ∷ b ∷ []) ≡ (literal_true v a && literal_true v b)
two_true v a b = go (literal_true v a) (literal_true v b)
  where
    go : (x y : Bool) → (x && (y && true)) ≡ (x && y)
    go true true = refl
    go true false = refl
    go false true = refl
    go false false = refl

-- a number below 2^m is written by its m lowest bits
pub number_take : (v : ℕ → Bool) (m : ℕ) (ls : List Literal) → number_of v ls < 2 ^ m → number_of v (take m ls) ≡ number_of v ls
number_take v zero ls h = let e : number_of v ls ≡ 0 = omega (arith, h) in sym e
number_take v (suc m) [] h = refl
number_take v (suc m) (l ∷ ls) h =
    let p = pow-suc 2 m in
    ap (λ n. bit (literal_true v l) + 2 * n) (number_take v m ls (omega (arith, h, p)))

-- a higher bit that is false adds nothing
pub number_longer : (v : ℕ → Bool) (ls : List Literal) (l : Literal) → literal_true v l ≡ false → number_of v (ls ++ l ∷ []) ≡ number_of v ls
number_longer v [] l f = let e = ap bit f in omega (arith, e)
number_longer v (k ∷ ls) l f = ap (λ n. bit (literal_true v k) + 2 * n) (number_longer v ls l f)

-- comparing
pub at_least_so : (b : Bool) (m n : ℕ) → b ≡ not (nat_lt m n) → b ≡ true → n ≤ m
at_least_so b m n e h = grind (arith, tests, e, h)

pub so_at_least : (b : Bool) (m n : ℕ) → b ≡ not (nat_lt m n) → n ≤ m → b ≡ true
so_at_least b m n e h = grind (arith, tests, e, h)

pub not_at_least : (m n : ℕ) → not (not (nat_lt m n)) ≡ nat_lt m n
not_at_least m n = go (nat_lt m n)
  where
    go : (b : Bool) → not (not b) ≡ b
    go true = refl
    go false = refl
