use Rattle.std.proofs.Common.{List, map, ap, sym, ◌∙◌}
use Rattle.wh_order_inference.specs.declared.filter.Filter.{Filter}
use Rattle.wh_order_inference.specs.Said.{written_filter}
use Rattle.wh_order_extended.specs.Filtered.{precedence}
use Rattle.wh_order_node.specs.Filterings.{filter_among}
use Rattle.wh_order.proofs.PrecedenceLemmas.{filter_read, filter_past}
use Rattle.wh_order.proofs.precedence.of_symbol.Goals as goal

pub returns-then-place-funs : goal.returns-then-place-funs
returns-then-place-funs c =
    c.of_filter.ensures ∙ sym (ap precedence (filter_read c.as_slice-funs.result.now c.args.symbol c.index-funs-place.result c.if-place-funs.true c.index-funs-place.is))
    ∙ ap (λ (fs : List Filter). precedence (filter_among (map written_filter fs) c.args.symbol)) c.as_slice-funs.ensures

pub returns-else-place-funs : goal.returns-else-place-funs
returns-else-place-funs c =
    sym (filter_past c.as_slice-funs.result.now c.args.symbol c.if-place-funs.false)
    ∙ ap (λ (fs : List Filter). precedence (filter_among (map written_filter fs) c.args.symbol)) c.as_slice-funs.ensures
