use Rattle.std.proofs.Common.{◌≡◌, ◌++◌, take}
use Rattle.std.specs.List.{flat_map}
use Rattle.wh_find_subterm.specs.Clauses.{only_one_chosen}
use Rattle.wh_find_subterm.proofs.clauses.add_only_one_chosen.Given as goal

abbrev pub invariant-loop-row : goal.invariant-loop-row
invariant-loop-row l = l.clauses ≡ l.fn.clauses ++ flat_map only_one_chosen (take l.row-index l.rows)
