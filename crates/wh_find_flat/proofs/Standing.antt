-- Meta-variables that stand in plain trees.
use Rattle.std.proofs.Common.{◌≡◌, ℕ, zero, suc, ◌+◌, ◌*◌, ◌<◌, ◌≤◌, ◌==◌, ◌||◌, if◌then◌else◌, inl, inr, Bool, true, false, List, add-one, refl, ap, ap₂, ◌∙◌, arith, tests}
use Rattle.std.proofs.Math.Nat.{mul-le-mul}
use Rattle.wh_terms.specs.Tree.{Tm, Tms, bound, free, fun, meta, lam, app, none, more}
use Rattle.wh_poly_flat.specs.Flat.{occurrences}
use Rattle.wh_poly_flat.specs.Worth.{IsAtLeast, constant_of, factor_of, coefficient, symbol_in, places_in}
use Rattle.wh_circuit.proofs.Solving.{cases_bool}
use Rattle.wh_find_flat.specs.Plain.{IsPlain, stands_in, standing}

-- one that does not stand in the tree has the factor 0
pub no_factor : (lists : List (List ℕ)) (z : ℕ) (t : Tm) → IsPlain t → stands_in z t ≡ false → factor_of lists z t ≡ 0
no_factor lists z (fun f) p h = omega arith
no_factor lists z (meta y none) p h = ap (λ b. if b then 1 else 0) h
no_factor lists z (meta y (more t ts)) p h = absurd p
no_factor lists z (app t u) p h =
    let a : stands_in z t ≡ false = grind (arith, tests, h) in
    let b : stands_in z u ≡ false = grind (arith, tests, h) in
    let d = no_factor lists z u p.1 b in
    let e = no_factor lists z t p.0 a in
    ap₂ (λ m n. m + coefficient lists (symbol_in t) (suc (places_in t)) * n) e d ∙ omega arith
no_factor lists z (bound i) p h = absurd p
no_factor lists z (free x a) p h = absurd p
no_factor lists z (lam a t) p h = absurd p

pub standing_more : (z : ℕ) (t : Tm) → standing (z + 1) t ≡ (if stands_in z t then 1 else 0) + standing z t
standing_more z t = ap (λ k. standing k t) (add-one z)

-- of a meta-variable at most one stands in it, itself
one_standing : (z y : ℕ) (ts : Tms) → (z ≤ y → standing z (meta y ts) ≡ 0) × (standing z (meta y ts) ≤ 1)
one_standing zero y ts = ((λ h. refl), omega arith)
one_standing (suc z) y ts = go (y == z) refl (one_standing z y ts)
  where
    go : (b : Bool) → (y == z) ≡ b → (z ≤ y → standing z (meta y ts) ≡ 0) × (standing z (meta y ts) ≤ 1)
        → (suc z ≤ y → (if y == z then 1 else 0) + standing z (meta y ts) ≡ 0) × ((if y == z then 1 else 0) + standing z (meta y ts) ≤ 1)
    go true e r =
        let same : y ≡ z = grind (arith, tests, e) in
        let none = r.0 (omega (arith, same)) in
        let k = ap (λ b. (if b then 1 else 0) + standing z (meta y ts)) e in
        ((λ h. absurd (omega (arith, h, same))), omega (arith, k, none))
    go false e r =
        let k = ap (λ b. (if b then 1 else 0) + standing z (meta y ts)) e in
        ((λ h. (let n = r.0 (omega (arith, h)) in omega (arith, k, n))), (let n = r.1 in omega (arith, k, n)))

none_standing : (z f : ℕ) → standing z (fun f) ≡ 0
none_standing zero f = refl
none_standing (suc z) f = let e = none_standing z f in omega (arith, e)

either_standing : (z : ℕ) (t u : Tm) → standing z (app t u) ≤ standing z t + standing z u
either_standing zero t u = omega arith
either_standing (suc z) t u = let e = either_standing z t u in let f = or_least (stands_in z t) (stands_in z u) in omega (arith, e, f)
  where
    or_least : (a b : Bool) → (if a || b then 1 else 0) ≤ (if a then 1 else 0) + (if b then 1 else 0)
    or_least true true = omega arith
    or_least true false = omega arith
    or_least false true = omega arith
    or_least false false = omega arith

pub standing_few : (z : ℕ) (t : Tm) → IsPlain t → standing z t ≤ occurrences t
standing_few z (fun f) p = let e = none_standing z f in omega (arith, e)
standing_few z (meta y none) p = let e = (one_standing z y none).1 in omega (arith, e)
standing_few z (meta y (more t ts)) p = absurd p
standing_few z (app t u) p =
    let a = standing_few z t p.0 in let b = standing_few z u p.1 in let c = either_standing z t u in omega (arith, a, b, c)
standing_few z (bound i) p = absurd p
standing_few z (free x a) p = absurd p
standing_few z (lam a t) p = absurd p

-- at most sixty times a number is at most sixty times it
pub at_most_sixty : (k c : ℕ) → k ≤ 60 → k * c ≤ 60 * c
at_most_sixty k c h = mul-le-mul h (le_self c)
  where
    le_self : (c : ℕ) → c ≤ c
    le_self c = omega arith

-- where the constant is at least the other, and the factors of the first meta-variables are, the side is, if no others
-- stand in the right one
pub at_least_of : (lists : List (List ℕ)) (n : ℕ) (t u : Tm) → IsPlain u → ((z : ℕ) → stands_in z u ≡ true → z < n)
    → constant_of lists u ≤ constant_of lists t → ((z : ℕ) → z < n → factor_of lists z u ≤ factor_of lists z t) → IsAtLeast lists t u
at_least_of lists n t u p bounded h k = record {
  constant = h;
  each = λ z. elim (cases_bool (stands_in z u)) [
    | inl s ↦ k z (bounded z s)
    | inr s ↦ let e = no_factor lists z u p s in omega (arith, e)
  ];
}
