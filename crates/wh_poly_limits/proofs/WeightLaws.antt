-- A walk that takes the weight of a value from a budget, and sees how deep its arguments nest.
use Rattle.std.proofs.Common.{◌≡◌, ℕ, ◌+◌, ◌-◌, ◌≤◌, ◌<◌, List, length, drop, get_or, ap, ◌∙◌, arith}
use Rattle.std.specs.Prelude.{max}
use Rattle.wh_poly.specs.Polynomials.{times, no_arguments}
use Rattle.wh_poly.specs.Limits.{weight_of_factors, nesting_of_factors}
use Rattle.wh_poly.specs.declared.polynomial.Atom.{Atom, out-Atom}
use Rattle.wh_poly.specs.Erase.{polys, product_of}
use Rattle.wh_poly.proofs.Walks.{product_drop}

-- what is left of the budget is that without what stands before the rest, and nothing before the rest nests too deep
pub record Weighing (whole rest deep deep_rest budget left depth : ℕ) : Type 0 where
  pub weighed : whole + left ≡ budget + rest
  pub within : deep_rest ≤ deep
  pub deepest : deep ≤ max depth deep_rest

pub weighing_starts : (whole rest deep deep_rest budget depth : ℕ) → whole ≡ rest → deep ≡ deep_rest → Weighing whole rest deep deep_rest budget budget depth
weighing_starts whole rest deep deep_rest budget depth e f = record { weighed = omega (arith, e); within = omega (arith, f); deepest = omega (arith, f) }

-- a factor without arguments weighs 1
pub weighing_bare : (whole deep : ℕ) (xs : List Atom) (i : ℕ) (u : Atom) (budget left depth : ℕ)
    → Weighing whole (weight_of_factors (product_of (drop i xs))) deep (nesting_of_factors (product_of (drop i xs))) budget left depth
    → i < length xs → u ≡ get_or xs i u → polys (out-Atom u).args ≡ no_arguments → 1 ≤ left
    → Weighing whole (weight_of_factors (product_of (drop (i + 1) xs))) deep (nesting_of_factors (product_of (drop (i + 1) xs))) budget (left - 1) depth
weighing_bare whole deep xs i u budget left depth w h e none some =
    let rest = product_of (drop (i + 1) xs) in
    let bare : product_of (drop i xs) ≡ times (out-Atom u).head no_arguments rest = product_drop xs i u h e ∙ ap (λ ps. times (out-Atom u).head ps rest) none in
    let weight : weight_of_factors (product_of (drop i xs)) ≡ 1 + weight_of_factors rest = ap weight_of_factors bare in
    let nesting : nesting_of_factors (product_of (drop i xs)) ≡ max 0 (nesting_of_factors rest) = ap nesting_of_factors bare in
    record {
      weighed = omega (arith, w.weighed, weight, some);
      within = omega (arith, w.within, nesting);
      deepest = omega (arith, w.deepest, nesting);
    }
