use Rattle.std.proofs.Common.{◌≤◌, ◌^◌, length}
use Rattle.wh_sat_trail.specs.declared.entry.Entry.{Entry}
use Rattle.wh_pairs.proofs.ByPlace.{Before}
use Rattle.wh_test_method.proofs.list_rows.are_short.Given as goal

abbrev pub invariant-loop-entry : goal.invariant-loop-entry
invariant-loop-entry l = Before (λ (e : Entry). length e.hints ≤ 2 ^ 32) l.entries l.entry-index
