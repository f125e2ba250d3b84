use Rattle.std.proofs.Common.{◌≡◌, ◌-◌, ◌++◌}
use Rattle.wh_poly_blocking.specs.Literals.{literals_from}
use Rattle.wh_poly_blocking.specs.Sizes.{value_of}
use Rattle.wh_poly_blocking.proofs.clauses.push_literals.Given as goal

abbrev pub invariant-loop-variable : goal.invariant-loop-variable
invariant-loop-variable l =
    l.clause ++ literals_from (value_of l.values) l.variable (l.to - l.variable) ≡ l.initial.clause ++ literals_from (value_of l.values) l.from (l.to - l.from)
