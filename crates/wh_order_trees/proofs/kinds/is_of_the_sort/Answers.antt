use Rattle.std.proofs.Common.{[]}
use Rattle.wh_types.specs.Ty.{sort}
use Rattle.wh_order_trees.proofs.KindLemmas.{meta_kind, sym_kind, mark_kind}
use Rattle.wh_order_trees.proofs.kinds.is_of_the_sort.Goals as goal

pub returns-in-Sym : goal.returns-in-Sym
returns-in-Sym c _ = sym_kind [] c.args.t.now c.in-Sym.field-0 c.in-Sym.field-1 c.in-Sym.is

pub returns-in-Mark : goal.returns-in-Mark
returns-in-Mark c _ = mark_kind [] c.args.t.now c.in-Mark.field-0 c.in-Mark.field-1 c.in-Mark.is

pub returns-in-Meta : goal.returns-in-Meta
returns-in-Meta c told = meta_kind [] c.args.t.now c.in-Meta.field-0 c.in-Meta.kind c.in-Meta.field-2 (sort 0) c.in-Meta.is (c.is_the_sort.ensures told)
