use Rattle.std.proofs.Common.{◌≡◌, ◌++◌}
use Rattle.wh_pairs.specs.Views.{pairs_data}
use Rattle.wh_pairs_making.proofs.survivors.add_pairs.Given as goal

abbrev pub invariant-loop-pair : goal.invariant-loop-pair
invariant-loop-pair l = pairs_data l.list ≡ pairs_data l.initial.list ++ pairs_data l.yielded
