use Rattle.std.proofs.Common.{◌≡◌, map}
use Rattle.std.specs.List.{range_with_len}
use Rattle.wh_find_subterm.specs.Clauses.{yes}
use Rattle.wh_find_subterm.proofs.clauses.some_of.Given as goal

abbrev pub invariant-loop-place : goal.invariant-loop-place
invariant-loop-place l = l.clause ≡ map yes (range_with_len l.first l.place)
