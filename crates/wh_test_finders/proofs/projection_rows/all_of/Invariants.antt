use Rattle.std.proofs.Common.{◌<◌, All}
use Rattle.wh_test_finders.proofs.projection_rows.all_of.Given as goal

abbrev pub invariant-loop-number : goal.invariant-loop-number
invariant-loop-number l = All (λ n. n < l.number) l.set
