use Rattle.std.proofs.Common.{subst, sym}
use Rattle.wh_order_node.specs.FilteringView.{filtering_data}
use Rattle.wh_order_trees.proofs.PartLemmas.{IsOtherTree}
use Rattle.wh_order.proofs.PrecedenceLemmas.{symbol_order, mark_order, no_order}
use Rattle.wh_order.proofs.precedence.precedence_of.Goals as goal

pub returns-in-Sym : goal.returns-in-Sym
returns-in-Sym c = symbol_order (filtering_data c.args.filters.now) c.args.t.now c.in-Sym.symbol c.in-Sym.field-1 c.of_symbol.result c.in-Sym.is c.of_symbol.ensures

pub returns-in-Mark : goal.returns-in-Mark
returns-in-Mark c = mark_order (filtering_data c.args.filters.now) c.args.t.now c.in-Mark.symbol c.in-Mark.field-1 c.of_mark.result c.in-Mark.is c.of_mark.ensures

pub returns-in-Apply : goal.returns-in-Apply
returns-in-Apply c = no_order (filtering_data c.args.filters.now) c.args.t.now (subst IsOtherTree (sym c.in-Apply.is) tt)
