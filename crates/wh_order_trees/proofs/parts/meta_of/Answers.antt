use Rattle.std.proofs.Common.{subst, sym}
use Rattle.wh_order_trees.proofs.PartLemmas.{IsNoMeta, no_meta, a_meta}
use Rattle.wh_order_trees.proofs.parts.meta_of.Goals as goal

pub returns-in-Meta : goal.returns-in-Meta
returns-in-Meta c = a_meta c.args.t.now c.in-Meta.meta c.in-Meta.field-1 c.in-Meta.items c.as_slice.result c.in-Meta.is c.as_slice.ensures

pub returns-in-Sym : goal.returns-in-Sym
returns-in-Sym c = no_meta c.args.t.now (subst IsNoMeta (sym c.in-Sym.is) tt)

pub returns-in-Mark : goal.returns-in-Mark
returns-in-Mark c = no_meta c.args.t.now (subst IsNoMeta (sym c.in-Mark.is) tt)

pub returns-in-Apply : goal.returns-in-Apply
returns-in-Apply c = no_meta c.args.t.now (subst IsNoMeta (sym c.in-Apply.is) tt)
