use Rattle.std.proofs.Common.{get_or, map}
use Rattle.wh_terms.specs.Erase.{tms}
use Rattle.wh_pairs.specs.PairData.{pair_data}
use Rattle.wh_pairs.proofs.AlikeLemmas.{tms_of_map}
use Rattle.wh_pairs.proofs.ByPlace.{number_at, map_at}
use Rattle.wh_usable_rules.specs.Called.{StandsInPairs}
use Rattle.wh_usable_rules.proofs.Tables.{StandsBefore, enters_as, enters_none, enters_pair, stands_first, stands_all}
use Rattle.wh_usable_rules.proofs.taking.call_pairs.Goals as goal

pub loop-number-init : goal.loop-number-init
loop-number-init c =
    enters_none (StandsBefore (map pair_data c.args.pairs.now) c.args.set.now 0) c.args.called.now (stands_first (map pair_data c.args.pairs.now) c.args.set.now)

pub loop-number-preserved : goal.loop-number-preserved
loop-number-preserved c =
    let pairs = c.args.pairs.now in
    let set = c.args.set.now in
    let i = c.loop-number.number-index in
    let n = get_or set i 0 in
    let p = get_or pairs n c.index-pairs-number.result in
    let there = map_at pair_data pairs n c.index-pairs-number.result (c.requires i 0 c.loop-number-test.true) in
    enters_pair (map pair_data pairs) set i n (pair_data p) (tms p.right) c.args.called.now c.loop-number.called
    c.call_symbols_of_all.new.called (number_at set i c.loop-number-test.true) there (tms_of_map p.right) c.loop-number.invariant
    c.call_symbols_of_all.ensures

pub returns : goal.returns
returns c =
    let ps = map pair_data c.args.pairs.now in
    let set = c.args.set.now in
    let i = c.loop-number.number-index in
    enters_as (StandsBefore ps set i) (StandsInPairs ps set) c.args.called.now c.loop-number.called (stands_all ps set i c.loop-number-test.false) c.loop-number.invariant
