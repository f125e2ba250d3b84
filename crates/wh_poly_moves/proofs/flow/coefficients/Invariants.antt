use Rattle.std.proofs.Common.{◌≡◌, ◌<◌, ◌^◌, map, take}
use Rattle.std.specs.List.{All}
use Rattle.wh_poly.specs.declared.polynomial.Monomial.{out-Monomial}
use Rattle.wh_poly_moves.proofs.flow.coefficients.Given as goal

abbrev pub invariant-loop-item : goal.invariant-loop-item
invariant-loop-item l = record {
  same : l.list.items ≡ map (λ x. (out-Monomial x).coefficient) (take l.item-index l.items);
  fit : All (λ c. c < 2 ^ 128) l.list.items;
}
