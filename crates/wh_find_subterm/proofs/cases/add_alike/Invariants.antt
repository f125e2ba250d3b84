use Rattle.std.proofs.Common.{map}
use Rattle.std.specs.List.{range_with_len}
use Rattle.wh_pairs.specs.PairData.{pair_data}
use Rattle.wh_find_subterm.specs.Cases.{Adds, spot}
use Rattle.wh_find_subterm.proofs.cases.add_alike.Given as goal

abbrev pub invariant-loop-place : goal.invariant-loop-place
invariant-loop-place l = Adds l.fn.cases.items l.cases.items (map (λ i. spot (pair_data l.sight.pair.now) l.row l.row l.own i i) (range_with_len 0 l.place))
