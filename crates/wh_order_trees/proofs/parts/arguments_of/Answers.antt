use Rattle.wh_order_trees.proofs.PartLemmas.{has_sym, has_mark, has_apply}
use Rattle.wh_order_trees.proofs.parts.arguments_of.Goals as goal

pub returns-in-Sym : goal.returns-in-Sym
returns-in-Sym c = has_sym c.args.t.now c.in-Sym.field-0 c.in-Sym.items c.as_slice.result.now c.in-Sym.is c.as_slice.ensures

pub returns-in-Mark : goal.returns-in-Mark
returns-in-Mark c = has_mark c.args.t.now c.in-Mark.field-0 c.in-Mark.items c.as_slice-in-Mark.result.now c.in-Mark.is c.as_slice-in-Mark.ensures

pub returns-in-Apply : goal.returns-in-Apply
returns-in-Apply c = has_apply c.args.t.now c.in-Apply.field-0 c.in-Apply.items c.as_slice-in-Apply.result.now c.in-Apply.is c.as_slice-in-Apply.ensures
