use Rattle.std.proofs.Common.{◌≡◌, ◌++◌, []}
use Rattle.wh_sat_trail.proofs.trail.Trail.new.Given as goal

abbrev pub invariant-loop-clause : goal.invariant-loop-clause
invariant-loop-clause l = record {
  variables : l.trail.formula.variables ≡ l.fn.formula.variables;
  clauses : l.trail.formula.clauses ++ l.clause-iterator.rest.items ≡ l.fn.formula.clauses;
  nothing : l.trail.assignment.literals.items ≡ [];
  ground_level : l.trail.stops.items ≡ [];
}
