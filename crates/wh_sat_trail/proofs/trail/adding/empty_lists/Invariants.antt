use Rattle.std.proofs.Common.{◌≡◌, vec_len}
use Rattle.wh_sat_trail.proofs.trail.adding.empty_lists.Given as goal

abbrev pub invariant-loop : goal.invariant-loop
invariant-loop l = vec_len l.lists ≡ l.counter
