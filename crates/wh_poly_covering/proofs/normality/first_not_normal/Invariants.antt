use Rattle.wh_types.specs.Ty.{arguments}
use Rattle.wh_pairs.proofs.ByPlace.{Before}
use Rattle.wh_poly.specs.Polynomials.{Normal}
use Rattle.wh_hopoly.specs.Erase.{interpretations}
use Rattle.wh_poly_covering.proofs.normality.first_not_normal.Given as goal

abbrev pub invariant-loop-i : goal.invariant-loop-i
invariant-loop-i l = Before (λ u. Normal (arguments u.kind) u.polynomial) (interpretations l.symbols) l.i
