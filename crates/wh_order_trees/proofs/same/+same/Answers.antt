use Rattle.std.proofs.Common.{ap, sym, ◌∙◌, subst, arith, rules}
use Rattle.std.proofs.lemmas.Bool.{true≢false, ne_eqb}
use Rattle.wh_order_trees.specs.declared.tree.Tree.{Tree}
use Rattle.wh_order_trees.proofs.TreeLemmas.{weights, weight_of_meta, weight_of_sym, weight_of_mark, weight_of_apply, weight_in}
use Rattle.wh_order_trees.proofs.PartLemmas.{has_sym, has_mark}
use Rattle.wh_order_trees.proofs.SameLemmas.{Decided, bound_arm, free_arm, spines_same, spines_other, sym_head, mark_head, lams_other, lams_of_types, lams_same, metas_other, metas_of_numbers, metas_same, applies_other, applies_of_heads, applies_same, same_next, differs, same_all}
use Rattle.wh_order_trees.proofs.TreeLemmas.{over_of_sym}
use Rattle.wh_order_trees.proofs.same.+same.Goals as goal

pub same_tree-returns-in-Bound : goal.same_tree-returns-in-Bound
same_tree-returns-in-Bound t c = bound_arm c.args.a.now c.args.b.now c.in-Bound.number c.is_bound.result c.in-Bound.is c.is_bound.ensures

pub same_tree-returns-in-Free : goal.same_tree-returns-in-Free
same_tree-returns-in-Free t c = free_arm c.args.a.now c.args.b.now c.in-Free.number c.in-Free.kind c.is_free.result c.in-Free.is c.is_free.ensures

pub same_tree-returns-then-same_type : goal.same_tree-returns-then-same_type
same_tree-returns-then-same_type t c =
    lams_same c.same_tree.result c.args.a.now c.args.b.now c.in-Lam.kind c.in-Lam.body c.in-Some.other c.in-Some.other_body c.in-Lam.is c.in-Some.ensures (c.same_type.ensures.0 (search rules))
    (subst (λ (u : Tree). Decided u c.in-Some.other_body.now c.same_tree.result) c.deref.ensures c.same_tree.ensures)

pub same_tree-returns-else-same_type : goal.same_tree-returns-else-same_type
same_tree-returns-else-same_type t c =
    subst (Decided c.args.a.now c.args.b.now) (sym c.if-same_type.false)
    (lams_of_types c.args.a.now c.args.b.now c.in-Lam.kind c.in-Lam.body c.in-Some.other c.in-Some.other_body c.in-Lam.is c.in-Some.ensures (λ e. true≢false (sym (c.same_type.ensures.1 e) ∙ c.if-same_type.false)))

pub same_tree-returns-in-None : goal.same_tree-returns-in-None
same_tree-returns-in-None t c = lams_other c.args.a.now c.args.b.now c.in-Lam.kind c.in-Lam.body c.in-Lam.is c.in-None.ensures

pub same_tree-returns-then-meta-other : goal.same_tree-returns-then-meta-other
same_tree-returns-then-meta-other t c =
    metas_same c.same_trees.result c.args.a.now c.args.b.now c.in-Meta.meta c.in-Some-meta_of.other c.in-Meta.field-1 c.in-Meta.items c.as_slice.result.now c.in-Some-meta_of.others c.in-Meta.is
    c.as_slice.ensures c.in-Some-meta_of.ensures c.if-meta-other.true c.same_trees.ensures

pub same_tree-returns-else-meta-other : goal.same_tree-returns-else-meta-other
same_tree-returns-else-meta-other t c =
    subst (Decided c.args.a.now c.args.b.now) (sym (ne_eqb c.in-Meta.meta c.in-Some-meta_of.other c.if-meta-other.false))
    (metas_of_numbers c.args.a.now c.args.b.now c.in-Meta.meta c.in-Some-meta_of.other c.in-Meta.field-1 c.in-Meta.items c.in-Some-meta_of.others c.in-Meta.is c.in-Some-meta_of.ensures c.if-meta-other.false)

pub same_tree-returns-in-None-meta_of : goal.same_tree-returns-in-None-meta_of
same_tree-returns-in-None-meta_of t c = metas_other c.args.a.now c.args.b.now c.in-Meta.meta c.in-Meta.field-1 c.in-Meta.items c.in-Meta.is c.in-None-meta_of.ensures

pub same_tree-returns-in-None-application_of : goal.same_tree-returns-in-None-application_of
same_tree-returns-in-None-application_of t c = applies_other c.args.a.now c.args.b.now c.in-Apply.head c.in-Apply.items c.in-Apply.is c.in-None-application_of.ensures

pub same_tree-returns-then-is_symbol : goal.same_tree-returns-then-is_symbol
same_tree-returns-then-is_symbol t c =
    spines_same c.same_trees-then-is_symbol.result c.args.a.now c.args.b.now c.as_slice-then-is_symbol.result.now c.arguments_of.result.now
    (has_sym c.args.a.now c.in-Sym.symbol c.in-Sym.items c.as_slice-then-is_symbol.result.now c.in-Sym.is c.as_slice-then-is_symbol.ensures) c.arguments_of.ensures
    (λ n w o u. sym_head n c.args.a.now c.in-Sym.symbol c.in-Sym.items c.in-Sym.is ∙ (c.is_symbol.ensures n w (over_of_sym n w c.args.a.now c.in-Sym.symbol c.in-Sym.items c.in-Sym.is o).0 u).0 c.if-is_symbol.true)
    c.same_trees-then-is_symbol.ensures

pub same_tree-returns-else-is_symbol : goal.same_tree-returns-else-is_symbol
same_tree-returns-else-is_symbol t c =
    subst (Decided c.args.a.now c.args.b.now) (sym c.if-is_symbol.false)
    (spines_other c.args.a.now c.args.b.now (λ n w o u e. true≢false (sym ((c.is_symbol.ensures n w (over_of_sym n w c.args.a.now c.in-Sym.symbol c.in-Sym.items c.in-Sym.is o).0 u).1 (sym (sym_head n c.args.a.now c.in-Sym.symbol c.in-Sym.items c.in-Sym.is) ∙ e)) ∙ c.if-is_symbol.false)))

pub same_tree-returns-then-is_marked : goal.same_tree-returns-then-is_marked
same_tree-returns-then-is_marked t c =
    spines_same c.same_trees-then-is_marked.result c.args.a.now c.args.b.now c.as_slice-then-is_marked.result.now c.arguments_of-then-is_marked.result.now
    (has_mark c.args.a.now c.in-Mark.symbol c.in-Mark.items c.as_slice-then-is_marked.result.now c.in-Mark.is c.as_slice-then-is_marked.ensures) c.arguments_of-then-is_marked.ensures
    (λ n w o u. mark_head n c.args.a.now c.in-Mark.symbol c.in-Mark.items c.in-Mark.is ∙ (c.is_marked.ensures n w u).0 c.if-is_marked.true)
    c.same_trees-then-is_marked.ensures

pub same_tree-returns-else-is_marked : goal.same_tree-returns-else-is_marked
same_tree-returns-else-is_marked t c =
    subst (Decided c.args.a.now c.args.b.now) (sym c.if-is_marked.false)
    (spines_other c.args.a.now c.args.b.now (λ n w o u e. true≢false (sym ((c.is_marked.ensures n w u).1 (sym (mark_head n c.args.a.now c.in-Mark.symbol c.in-Mark.items c.in-Mark.is) ∙ e)) ∙ c.if-is_marked.false)))

pub same_tree-returns-then-same_tree : goal.same_tree-returns-then-same_tree
same_tree-returns-then-same_tree t c =
    applies_same c.args.a.now c.args.b.now c.in-Apply.head c.in-Apply.items c.as_slice-then-same_tree.result.now c.in-Some-application_of.other c.in-Some-application_of.others c.same_tree-in-Some-application_of.result c.same_trees-then-same_tree.result c.in-Apply.is c.as_slice-then-same_tree.ensures c.in-Some-application_of.ensures
    (subst (λ (u : Tree). Decided u c.in-Some-application_of.other.now c.same_tree-in-Some-application_of.result) c.deref-in-Some-application_of.ensures c.same_tree-in-Some-application_of.ensures) c.if-same_tree.true c.same_trees-then-same_tree.ensures

pub same_tree-returns-else-same_tree : goal.same_tree-returns-else-same_tree
same_tree-returns-else-same_tree t c =
    subst (Decided c.args.a.now c.args.b.now) (sym c.if-same_tree.false)
    (applies_of_heads c.args.a.now c.args.b.now c.in-Apply.head c.in-Apply.items c.in-Some-application_of.other c.in-Some-application_of.others c.same_tree-in-Some-application_of.result c.in-Apply.is c.in-Some-application_of.ensures
    (subst (λ (u : Tree). Decided u c.in-Some-application_of.other.now c.same_tree-in-Some-application_of.result) c.deref-in-Some-application_of.ensures c.same_tree-in-Some-application_of.ensures) c.if-same_tree.false)

pub same_trees-loop-i-preserved : goal.same_trees-loop-i-preserved
same_trees-loop-i-preserved t c =
    same_next c.args.items.now c.args.others.now c.loop-i.i c.index-items-i.result c.index-others-i.result c.same_tree.result c.loop-i.invariant c.loop-i-test.true c.if-items-others.false
    c.index-items-i.is c.index-others-i.is c.same_tree.ensures (search rules)

pub same_trees-returns-then-not-same_tree : goal.same_trees-returns-then-not-same_tree
same_trees-returns-then-not-same_tree t c =
    differs c.args.items.now c.args.others.now c.loop-i.i c.index-items-i.result c.index-others-i.result c.same_tree.result c.loop-i-test.true c.if-items-others.false
    c.index-items-i.is c.index-others-i.is c.same_tree.ensures (search rules)

pub same_trees-returns : goal.same_trees-returns
same_trees-returns t c = same_all c.args.items.now c.args.others.now c.loop-i.i c.if-items-others.false c.loop-i.invariant c.loop-i-test.false

pub same_tree-same_trees-requires : goal.same_tree-same_trees-requires
same_tree-same_trees-requires t c = (omega (arith, weight_of_meta c.args.a.now c.in-Meta.meta c.in-Meta.field-1 c.in-Meta.items c.in-Meta.is, ap weights c.as_slice.ensures), tt)

pub same_tree-same_trees-requires-then-is_symbol : goal.same_tree-same_trees-requires-then-is_symbol
same_tree-same_trees-requires-then-is_symbol t c = (omega (arith, weight_of_sym c.args.a.now c.in-Sym.symbol c.in-Sym.items c.in-Sym.is, ap weights c.as_slice-then-is_symbol.ensures), tt)

pub same_tree-same_trees-requires-then-is_marked : goal.same_tree-same_trees-requires-then-is_marked
same_tree-same_trees-requires-then-is_marked t c = (omega (arith, weight_of_mark c.args.a.now c.in-Mark.symbol c.in-Mark.items c.in-Mark.is, ap weights c.as_slice-then-is_marked.ensures), tt)

pub same_tree-same_trees-requires-then-same_tree : goal.same_tree-same_trees-requires-then-same_tree
same_tree-same_trees-requires-then-same_tree t c = (omega (arith, weight_of_apply c.args.a.now c.in-Apply.head c.in-Apply.items c.in-Apply.is, ap weights c.as_slice-then-same_tree.ensures), tt)

pub same_trees-same_tree-requires : goal.same_trees-same_tree-requires
same_trees-same_tree-requires t c = (omega (arith, weight_in c.args.items.now c.loop-i.i c.index-items-i.result c.loop-i-test.true c.index-items-i.is), tt)
