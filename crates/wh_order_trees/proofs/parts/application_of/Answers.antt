use Rattle.std.proofs.Common.{subst, sym}
use Rattle.wh_order_trees.proofs.PartLemmas.{IsNoApply, no_application, an_application}
use Rattle.wh_order_trees.proofs.parts.application_of.Goals as goal

pub returns-in-Apply : goal.returns-in-Apply
returns-in-Apply c = an_application c.args.t.now c.in-Apply.head c.in-Apply.items c.deref.result c.as_slice.result c.in-Apply.is c.deref.ensures c.as_slice.ensures

pub returns-in-Sym : goal.returns-in-Sym
returns-in-Sym c = no_application c.args.t.now (subst IsNoApply (sym c.in-Sym.is) tt)

pub returns-in-Mark : goal.returns-in-Mark
returns-in-Mark c = no_application c.args.t.now (subst IsNoApply (sym c.in-Mark.is) tt)
