use Rattle.std.proofs.Common.{◌≡◌, ◌++◌, take}
use Rattle.std.specs.List.{flat_map}
use Rattle.wh_find_subterm.specs.Clauses.{fourth}
use Rattle.wh_find_subterm.proofs.clauses.add_fourth.Given as goal

abbrev pub invariant-loop-case : goal.invariant-loop-case
invariant-loop-case l = l.clauses ≡ l.fn.clauses ++ flat_map fourth (take l.case-index l.cases)
