use Rattle.std.specs.List.{flat_map, range_with_len}
use Rattle.wh_pairs.specs.PairData.{pair_data}
use Rattle.wh_find_subterm.specs.Cases.{Adds, spots_beside}
use Rattle.wh_find_subterm.proofs.cases.add_apart.Given as goal

abbrev pub invariant-loop-place : goal.invariant-loop-place
invariant-loop-place l = Adds l.fn.cases.items l.cases.items (flat_map (λ i. spots_beside (pair_data l.sight.pair.now) l.left l.right l.own i) (range_with_len 0 l.place))
