use Rattle.std.proofs.Common.{reverse, length, map, subst, sym}
use Rattle.wh_order_inference.specs.FilterText.{filter_of}
use Rattle.wh_order_inference.specs.Said.{written_filter}
use Rattle.wh_order_node.specs.Filterings.{IsProperAsWritten}
use Rattle.wh_order_trees.specs.declared.tree.Tree.{Sym}
use Rattle.wh_order.specs.Kept.{IsFiltered}
use Rattle.wh_order.proofs.KeptLemmas.{no_filter, symbol_given, symbol_kept, instead_kept}
use Rattle.wh_order.proofs.kept.filtered_symbol.Goals as goal

pub returns-then-place-funs : goal.returns-then-place-funs
returns-then-place-funs c cs w at proper count = absurd (no_filter c.as_slice-funs.result.now c.args.filters.now.funs c.args.symbol w c.as_slice-funs.ensures c.if-place-funs.true at)

pub returns-in-Arguments : goal.returns-in-Arguments
returns-in-Arguments c cs w at proper count =
    let given = symbol_given c.as_slice-funs.result.now c.args.filters.now.funs c.args.symbol c.index-funs-place.result w c.as_slice-funs.ensures c.if-place-funs.false c.index-funs-place.is at in
    subst (λ v. IsFiltered (length (map written_filter c.args.filters.now.funs)) c.args.symbol cs (filter_of v) (reverse c.args.behind.items) (Sym c.args.symbol c.in-Arguments.items)) given.0
    (symbol_kept (length (map written_filter c.args.filters.now.funs)) c.args.symbol cs (written_filter c.index-funs-place.result) (reverse c.args.behind.items) _ c.in-Arguments.items c.in-Arguments.is given.1
    (c.in_ok-items.ensures cs (subst (IsProperAsWritten cs) (sym given.0) proper) count))

pub returns-in-Instead : goal.returns-in-Instead
returns-in-Instead c cs w at proper count =
    let given = symbol_given c.as_slice-funs.result.now c.args.filters.now.funs c.args.symbol c.index-funs-place.result w c.as_slice-funs.ensures c.if-place-funs.false c.index-funs-place.is at in
    subst (λ v. IsFiltered (length (map written_filter c.args.filters.now.funs)) c.args.symbol cs (filter_of v) (reverse c.args.behind.items) c.in-Instead.tree) given.0
    (instead_kept (length (map written_filter c.args.filters.now.funs)) c.args.symbol cs (written_filter c.index-funs-place.result) (reverse c.args.behind.items) _ c.in-Instead.tree c.in-Instead.is
    (c.in_ok-items.ensures cs (subst (IsProperAsWritten cs) (sym given.0) proper) count))
