use Rattle.std.proofs.Common.{◌≡◌, ◌+◌, ◌++◌, map}
use Rattle.std.specs.List.{range_with_len}
use Rattle.wh_find_subterm.specs.Clauses.{not_both}
use Rattle.wh_find_subterm.proofs.clauses.add_pairs_with.Given as goal

abbrev pub invariant-loop-place : goal.invariant-loop-place
invariant-loop-place l = l.clauses ≡ l.fn.clauses ++ map (λ x. not_both l.first x) (range_with_len (l.first + 1) l.place)
