use Rattle.std.proofs.Common.{◌≡◌, ◌+◌, ◌-◌, ◌++◌}
use Rattle.wh_find_subterm.specs.Clauses.{no_two}
use Rattle.wh_find_subterm.proofs.clauses.add_no_two.Given as goal

abbrev pub invariant-loop-place : goal.invariant-loop-place
invariant-loop-place l = l.clauses ++ no_two (l.first + l.place) (l.count - l.place) ≡ l.fn.clauses ++ no_two l.first l.count
