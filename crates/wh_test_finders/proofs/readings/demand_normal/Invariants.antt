use Rattle.wh_types.specs.Ty.{arguments}
use Rattle.wh_pairs.proofs.ByPlace.{Before}
use Rattle.wh_poly.specs.Polynomials.{Normal}
use Rattle.wh_hopoly.specs.Erase.{interpretations}
use Rattle.wh_test_finders.proofs.readings.demand_normal.Given as goal

abbrev pub invariant-loop-symbol : goal.invariant-loop-symbol
invariant-loop-symbol l = Before (λ u. Normal (arguments u.kind) u.polynomial) (interpretations l.symbols) l.symbol-index
