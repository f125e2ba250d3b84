-- Sums of products with coefficients.
use Rattle.std.proofs.Common.{◌≡◌, ℕ, zero, suc, ◌+◌, ◌*◌, ◌^◌, ◌<◌, ◌≤◌, Bool, true, false, if◌then◌else◌, List, [], ◌∷◌, Option, Some, None, length, take, refl, ap, ap₂, sym, subst, ◌∙◌, arith}
use Rattle.wh_sat_trail.specs.declared.literal.Literal.{Literal}
use Rattle.wh_sat_trail.specs.Assignment.{AllBelow}
use Rattle.wh_sat.specs.Solving.{literal_true}
use Rattle.wh_circuit.specs.declared.circuit.Gate.{Gate}
use Rattle.wh_circuit.specs.Gates.{Agrees, AreWires, MeansNumber}
use Rattle.wh_circuit.specs.Values.{bit, number_of}
use Rattle.wh_poly_blocking.specs.Bits.{digit}
use Rattle.wh_find_flat.specs.Numbers.{Later}
use Rattle.wh_find_flat.specs.Products.{digit_by, IsProduct}
use Rattle.wh_find_flat.proofs.Growth.{agrees_early}
use Rattle.wh_find_flat.proofs.RowLemmas.{number_take}

below_take : (n m : ℕ) (ls : List Literal) → AllBelow n ls → AllBelow n (take m ls)
below_take n zero ls b i d h = absurd (omega (arith, h))
below_take n (suc m) [] b i d h = absurd (omega (arith, h))
below_take n (suc m) (l ∷ ls) b zero d h = b 0 d (omega arith)
below_take n (suc m) (l ∷ ls) b (suc i) d h = below_take n m ls (λ j e g. b (suc j) e (omega (arith, g))) i d (omega (arith, h))

narrow_take : (m : ℕ) (ls : List Literal) → length (take m ls) ≤ m
narrow_take zero ls = omega arith
narrow_take (suc m) [] = omega arith
narrow_take (suc m) (l ∷ ls) = let e = narrow_take m ls in omega (arith, e)

pub product_by : (gates : List Gate) (o : Option ℕ) (sum number all : List Literal) (width : ℕ) (made : List Literal) → AreWires gates all
    → made ≡ take width all
    → ((v : ℕ → Bool) → Agrees gates v → number_of v all ≡ number_of v sum + digit_by o v * number_of v number)
    → IsProduct gates o sum number width made
product_by gates o sum number all width made own is means = record {
  own = subst (AreWires gates) (sym is) (below_take (length gates) width all own);
  narrow = subst (λ l. length l ≤ width) (sym is) (narrow_take width all);
  is = λ v a small. (let e = means v a in
      ap (number_of v) is ∙ number_take v width all (subst (λ n. n < 2 ^ width) (sym e) small) ∙ e);
}

pub product_none : (gates : List Gate) (o : Option ℕ) (sum number : List Literal) (width : ℕ) (made : List Literal) → AreWires gates sum
    → o ≡ None → made ≡ take width sum → IsProduct gates o sum number width made
product_none gates o sum number width made own none is =
    product_by gates o sum number sum width made own is (λ v a. (let e = ap (λ o. number_of v sum + digit_by o v * number_of v number) none in
    (let z : number_of v sum ≡ number_of v sum + 0 * number_of v number = omega arith in z) ∙ sym e))

pub product_empty : (gates : List Gate) (o : Option ℕ) (sum number : List Literal) (width : ℕ) (made : List Literal) → AreWires gates sum
    → length number ≡ 0 → made ≡ take width sum → IsProduct gates o sum number width made
product_empty gates o sum [] width made own empty is =
    product_by gates o sum [] sum width made own is (λ v a. omega arith)
product_empty gates o sum (l ∷ ls) width made own empty is = absurd (omega (arith, empty))

digit_bits : (a b : Bool) → (if a then 1 else 0) + (if b then 2 else 0) ≡ bit a + 2 * bit b
digit_bits true true = refl
digit_bits true false = refl
digit_bits false true = refl
digit_bits false false = refl

-- by two rows
pub product_some : (before mid gates : List Gate) (o : Option ℕ) (x : ℕ) (sum number once twice all : List Literal) (low high : Literal) (width : ℕ)
    (made : List Literal) → Later before mid → Later mid gates → o ≡ Some x
    → low ≡ record { variable = x; positive = true } → high ≡ record { variable = x + 1; positive = true }
    → MeansNumber before once (λ v. number_of v sum + bit (literal_true v low) * number_of v number)
    → MeansNumber mid twice (λ v. 2 * number_of v number)
    → MeansNumber gates all (λ v. number_of v once + bit (literal_true v high) * number_of v twice)
    → made ≡ take width all → IsProduct gates o sum number width made
product_some before mid gates o x sum number once twice all low high width made l m some is_low is_high first second third is =
    product_by gates o sum number all width made third.own is (λ v a.
    let early = agrees_early mid gates v m a in
    let a1 = first.is v (agrees_early before mid v l early) in
    let a2 = second.is v early in
    let a3 = third.is v a in
    let p : literal_true v low ≡ v x = ap (literal_true v) is_low in
    let next : x + 1 ≡ suc x = omega arith in
    let q : literal_true v high ≡ v (suc x) = ap (literal_true v) is_high ∙ ap v next in
    let r : bit (literal_true v low) + 2 * bit (literal_true v high) ≡ digit v x = ap₂ (λ a b. bit a + 2 * bit b) p q ∙ sym (digit_bits (v x) (v (suc x))) in
    let s : digit v x ≡ digit_by o v = ap (λ o. digit_by o v) (sym some) in
    let k = number_of v number in
    let t : number_of v all ≡ number_of v sum + (bit (literal_true v low) + 2 * bit (literal_true v high)) * k =
    a3 ∙ ap₂ (λ n m. n + bit (literal_true v high) * m) a1 a2 ∙ omega arith in
    t ∙ ap (λ d. number_of v sum + d * k) (r ∙ s))
