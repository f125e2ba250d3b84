-- The first mark of the symbol, which has one.
use Rattle.std.proofs.Common.{◌≡◌, rules, tests}
use Rattle.wh_polycheck.proofs.MarkWalk.{mark_found, mark_missed}
use Rattle.wh_intern_pairs.proofs.marks.mark_of.Goals as goal

pub returns-then-item-symbol : goal.returns-then-item-symbol
returns-then-item-symbol c =
    let same : c.item-item.result.symbol ≡ c.args.symbol = search (rules, tests) in
    mark_found c.args.marks.now c.args.symbol c.loop-item.item-index c.item-item.result c.loop-item.invariant
    c.loop-item-test.true c.item-item.is same

pub unreachable-requires : goal.unreachable-requires
unreachable-requires c = mark_missed c.args.marks.now c.args.symbol c.loop-item.item-index c.loop-item.invariant
    c.loop-item-test.false c.requires
