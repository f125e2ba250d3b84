use Rattle.std.proofs.Common.{ℕ, ◌+◌}
use Rattle.std.specs.List.{flat_map, range_with_len}
use Rattle.wh_pairs.specs.PairData.{pair_data}
use Rattle.wh_find_subterm.specs.Cases.{spots_beside}
use Rattle.wh_find_subterm.proofs.CaseLemmas.{adds_more, joined_more}
use Rattle.wh_find_subterm.proofs.cases.add_apart.Goals as goal

pub loop-place-preserved : goal.loop-place-preserved
loop-place-preserved c =
    let n = c.loop-place.place in
    let f = λ (i : ℕ). spots_beside (pair_data c.args.sight.now.pair.now) c.args.left c.args.right c.args.own i in
    adds_more c.args.cases.now.items c.loop-place.cases.items c.add_beside.new.cases.items (flat_map f (range_with_len 0 n)) (f n) (flat_map f (range_with_len 0 (n + 1))) c.loop-place.invariant
    c.in_ok-add_beside.ensures (joined_more f n)
