use Rattle.std.proofs.Common.{ap, sym, ◌∙◌}
use Rattle.wh_terms.specs.Tree.{meta}
use Rattle.wh_terms.proofs.TermLemmas.{tm_meta}
use Rattle.wh_order_sides.specs.Growth.{past}
use Rattle.wh_order_sides.proofs.RaiseLemmas.{raised_meta}
use Rattle.wh_order_sides.proofs.raising.+raising.Goals as goal

pub raise_under-returns-in_ok-raise_each-in-Meta : goal.raise_under-returns-in_ok-raise_each-in-Meta
raise_under-returns-in_ok-raise_each-in-Meta t c =
    tm_meta c.in-Meta.meta c.in_ok-raise_each-in-Meta.field-0
    ∙ ap (meta c.in-Meta.meta) c.in_ok-raise_each-in-Meta.ensures
    ∙ sym (raised_meta (past c.args.depth) c.args.term.now c.in-Meta.meta c.in-Meta.items c.in-Meta.is)
