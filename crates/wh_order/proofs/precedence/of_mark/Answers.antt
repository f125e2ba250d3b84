use Rattle.std.proofs.Common.{◌≡◌, List, map, refl, ap, sym, ◌∙◌, rules, tests}
use Rattle.wh_order_extended.specs.Filtered.{precedence}
use Rattle.wh_order_node.specs.declared.filters.MarkFilter.{MarkFilter}
use Rattle.wh_order_node.specs.FilteringView.{mark_filter}
use Rattle.wh_order_node.specs.Filterings.{mark_among}
use Rattle.wh_order.proofs.PrecedenceLemmas.{mark_here, mark_next, mark_end}
use Rattle.wh_order.proofs.precedence.of_mark.Goals as goal

pub loop-mark-init : goal.loop-mark-init
loop-mark-init c = refl

pub loop-mark-preserved : goal.loop-mark-preserved
loop-mark-preserved c =
    mark_next c.as_slice-mark-items.result.now c.args.symbol c.loop-mark.mark-index c.mark-item.result c.loop-mark.invariant c.loop-mark-test.true c.mark-item.is (search (rules, tests))

pub returns-then-mark-symbol : goal.returns-then-mark-symbol
returns-then-mark-symbol c =
    let same : c.mark-item.result.symbol ≡ c.args.symbol = search (rules, tests) in
    c.of_filter.ensures
    ∙ sym (ap precedence (mark_here c.as_slice-mark-items.result.now c.args.symbol c.loop-mark.mark-index c.mark-item.result c.loop-mark.invariant c.loop-mark-test.true c.mark-item.is same))
    ∙ ap (λ (ms : List MarkFilter). precedence (mark_among (map mark_filter ms) c.args.symbol)) c.as_slice-mark-items.ensures

pub returns : goal.returns
returns c =
    sym (ap precedence (mark_end c.as_slice-mark-items.result.now c.args.symbol c.loop-mark.mark-index c.loop-mark.invariant c.loop-mark-test.false))
    ∙ ap (λ (ms : List MarkFilter). precedence (mark_among (map mark_filter ms) c.args.symbol)) c.as_slice-mark-items.ensures
