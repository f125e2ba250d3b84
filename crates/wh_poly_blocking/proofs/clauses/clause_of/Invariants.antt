use Rattle.std.proofs.Common.{◌≡◌, take}
use Rattle.std.specs.List.{flat_map}
use Rattle.wh_poly_blocking.specs.Literals.{literals_on}
use Rattle.wh_poly_blocking.specs.Sizes.{value_of}
use Rattle.wh_poly_blocking.proofs.clauses.clause_of.Given as goal

abbrev pub invariant-loop-number : goal.invariant-loop-number
invariant-loop-number l = l.clause ≡ flat_map (literals_on (value_of l.values) l.first_bits) (take l.number-index l.numbers)
