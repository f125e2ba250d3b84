use Rattle.std.proofs.Common.{map, get_or, sym, arith}
use Rattle.wh_pairs.specs.PairData.{pair_data}
use Rattle.wh_find_subterm.proofs.CaseLemmas.{cases_more}
use Rattle.wh_find_subterm.proofs.Chosen.{pair_is}
use Rattle.wh_find_subterm.proofs.cases.cases_of.Goals as goal

pub loop-number-preserved : goal.loop-number-preserved
loop-number-preserved c =
    let rows = c.args.rows.now in
    let ps = map pair_data c.args.pairs.now in
    let set = c.args.set.now in
    let i = c.loop-number.number-index in
    let n = get_or set i 0 in
    let p = c.sight_of-sight.result.pair.now in
    let at = c.sight_of-sight.ensures.pair in
    let own = c.loop-number.invariant.own in
    record {
      own = omega (arith, own);
      cases = cases_more rows ps c.args.end set i c.loop-number.cases.items c.add_pair.new.cases.items (pair_data p) c.row_of.result c.row_of-in-loop-number.result c.loop-number.own c.loop-number-test.true
          c.loop-number.invariant.cases c.in_ok-add_pair.ensures (sym (pair_is ps n (pair_data p) at)) c.row_of.ensures c.row_of-in-loop-number.ensures own;
    }
