use Rattle.std.proofs.Common.{◌≡◌, length}
use Rattle.wh_loop_steps.proofs.table.Table.new.Given as goal

abbrev pub invariant-loop : goal.invariant-loop
invariant-loop l = length l.rows.items ≡ l.counter
