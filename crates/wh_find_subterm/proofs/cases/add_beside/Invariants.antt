use Rattle.std.proofs.Common.{map}
use Rattle.std.specs.List.{range_with_len}
use Rattle.wh_pairs.specs.PairData.{pair_data}
use Rattle.wh_find_subterm.specs.Cases.{Adds, spot}
use Rattle.wh_find_subterm.proofs.cases.add_beside.Given as goal

abbrev pub invariant-loop-place : goal.invariant-loop-place
invariant-loop-place l = Adds l.fn.cases.items l.cases.items (map (λ j. spot (pair_data l.sight.pair.now) l.left l.right l.own l.left_place j) (range_with_len 0 l.place))
