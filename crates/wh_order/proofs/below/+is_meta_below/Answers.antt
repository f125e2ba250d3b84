use Rattle.std.proofs.Common.{◌-◌, ◌∙◌, subst, sym, arith}
use Rattle.std.proofs.lemmas.Bool.{le-ltb}
use Rattle.wh_order_trees.specs.declared.tree.Tree.{Tree}
use Rattle.wh_order.proofs.BelowLemmas.{IsBelow, below_lam, below_none, below_meta_is, below_other_number, below_too_few, below_other, IsNeither}
use Rattle.wh_order.proofs.below.+is_meta_below.Goals as goal

pub returns-in-Sym : goal.returns-in-Sym
returns-in-Sym t c = below_other c.args.t.now c.args.meta c.args.count c.args.left (subst IsNeither (sym c.in-Sym.is) tt)

pub returns-in-Mark : goal.returns-in-Mark
returns-in-Mark t c = below_other c.args.t.now c.args.meta c.args.count c.args.left (subst IsNeither (sym c.in-Mark.is) tt)

pub returns-in-Apply : goal.returns-in-Apply
returns-in-Apply t c = below_other c.args.t.now c.args.meta c.args.count c.args.left (subst IsNeither (sym c.in-Apply.is) tt)

pub returns-then-left-gt0 : goal.returns-then-left-gt0
returns-then-left-gt0 t c =
    below_lam c.args.t.now c.in-Lam.field-0 c.in-Lam.body c.args.meta c.args.count c.args.left c.is_meta_below.result c.in-Lam.is c.if-left-gt0.true
    (subst (λ (u : Tree). IsBelow u c.args.meta c.args.count (c.args.left - 1) c.is_meta_below.result) c.deref.ensures c.is_meta_below.ensures)

pub returns-else-left-gt0 : goal.returns-else-left-gt0
returns-else-left-gt0 t c n k w sum o =
    le-ltb 0 c.args.left c.if-left-gt0.false ∙ below_none c.args.t.now c.in-Lam.field-0 c.in-Lam.body c.args.meta c.args.count c.args.left c.in-Lam.is (omega (arith, c.if-left-gt0.false)) n k w sum o

pub returns-then-number-meta : goal.returns-then-number-meta
returns-then-number-meta t c =
    below_other_number c.args.t.now c.in-Meta.number c.in-Meta.field-1 c.in-Meta.items c.args.meta c.args.count c.args.left c.in-Meta.is c.if-number-meta.true

pub returns-then-left-ne0 : goal.returns-then-left-ne0
returns-then-left-ne0 t c =
    below_too_few c.args.t.now c.in-Meta.number c.in-Meta.field-1 c.in-Meta.items c.args.meta c.args.count c.args.left c.in-Meta.is c.if-left-ne0.true

pub returns-else-left-ne0 : goal.returns-else-left-ne0
returns-else-left-ne0 t c =
    below_meta_is c.args.t.now c.in-Meta.number c.in-Meta.field-1 c.in-Meta.items c.as_slice.result.now c.args.meta c.args.count c.args.left c.are_nearest.result c.in-Meta.is c.as_slice.ensures
    c.are_nearest.ensures c.if-number-meta.false c.if-left-ne0.false
