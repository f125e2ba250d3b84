use Rattle.std.proofs.Common.{sym, subst}
use Rattle.wh_order_node.specs.FilteringView.{filtering_data}
use Rattle.wh_order_node.specs.declared.filters.Filters.{Filters}
use Rattle.wh_poly_blocking.specs.Sizes.{value_of}
use Rattle.wh_poly_guesses.proofs.ToldLemmas.{matched_because}
use Rattle.wh_order_space.specs.Bits.{IsWritten}
use Rattle.wh_find_order.specs.Encodings.{HasNoFilter, task_in}
use Rattle.wh_find_order.proofs.DecodingLemmas.{tried_is}
use Rattle.wh_find_order.proofs.blocking.look.Goals as goal

pub failing_line-requires-clause-filters : goal.failing_line-requires-clause-filters
failing_line-requires-clause-filters c =
    let e = c.args.encoding.now in
    tried_is e (value_of c.args.values.now) (filtering_data c.in-Ok.filters) c.requires.encoding c.in-Ok.ensures

pub node_of_order-requires-clause-filters : goal.node_of_order-requires-clause-filters
node_of_order-requires-clause-filters c =
    let e = c.args.encoding.now in
    tried_is e (value_of c.args.values.now) (filtering_data c.in-Ok.filters) c.requires.encoding c.in-Ok.ensures

pub returns-in-Err-Because : goal.returns-in-Err-Because
returns-in-Err-Because c =
    let e = c.args.encoding.now in
    let v = value_of c.args.values.now in
    let told = c.in-Err-Because in
    subst (HasNoFilter e v) (sym told.number-is)
    (matched_because told.field-0 told.number (λ (filters : Filters). IsWritten (task_in e) e.marked.now v (filtering_data filters)) (HasNoFilter e v) told.field-0-is told.ensures)

pub returns : goal.returns
returns c =
    let h = rw c.in-Failing.is at c.in_ok-node.ensures in
    (h.0, h.1, (filtering_data c.in-Ok.filters, c.in-Ok.ensures, h.2))
