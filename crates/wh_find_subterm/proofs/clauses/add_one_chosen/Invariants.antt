use Rattle.std.proofs.Common.{◌≡◌, ◌++◌, map, take}
use Rattle.wh_find_subterm.specs.Clauses.{one_chosen}
use Rattle.wh_find_subterm.proofs.clauses.add_one_chosen.Given as goal

abbrev pub invariant-loop-row : goal.invariant-loop-row
invariant-loop-row l = l.clauses ≡ l.fn.clauses ++ map one_chosen (take l.row-index l.rows)
