use Rattle.std.proofs.Common.{ℕ, ◌+◌, [], ◌∷◌, map}
use Rattle.std.specs.List.{range_with_len}
use Rattle.wh_pairs.specs.PairData.{pair_data}
use Rattle.wh_find_subterm.specs.Cases.{spot}
use Rattle.wh_find_subterm.proofs.CaseLemmas.{adds_more, adds_one, made_more}
use Rattle.wh_find_subterm.proofs.cases.add_beside.Goals as goal

pub loop-place-preserved : goal.loop-place-preserved
loop-place-preserved c =
    let n = c.loop-place.place in
    let f = λ (j : ℕ). spot (pair_data c.args.sight.now.pair.now) c.args.left c.args.right c.args.own c.args.left_place j in
    let now = c.loop-place.cases.items in
    let new = c.push.new.self.items in
    adds_more c.args.cases.now.items now new (map f (range_with_len 0 n)) (f n ∷ []) (map f (range_with_len 0 (n + 1))) c.loop-place.invariant
    (adds_one now new c.case_at.result (f n) c.in_ok-push.ensures.items c.case_at.ensures) (made_more f n)
