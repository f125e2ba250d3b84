use Rattle.std.proofs.Common.{ap, sym, ◌∙◌, arith, rules}
use Rattle.std.proofs.lemmas.Bool.{eqb-true}
use Rattle.wh_order_trees.proofs.TreeLemmas.{weights, weight_of_meta, weight_of_sym, weight_of_mark, weight_of_apply, weight_in}
use Rattle.wh_order_known.specs.Plain.{plain, plains}
use Rattle.wh_order_known.proofs.PlainLemmas.{alike_next, alike_meta, alike_sym, alike_mark, alike_apply}
use Rattle.wh_order_known.proofs.copies.+comparing.Goals.{are_alike-then-meta-other, are_alike-else-meta-other}
use Rattle.wh_order_known.proofs.copies.+comparing.Goals as goal

pub are_alike-are_all_alike-requires : goal.are_alike-are_all_alike-requires
are_alike-are_all_alike-requires t c = (omega (arith, weight_of_meta c.args.a.now c.in-Meta.meta c.in-Meta.kind c.in-Meta.items c.in-Meta.is, ap weights c.as_slice.ensures), tt)

pub are_alike-are_all_alike-requires-then-symbol-other : goal.are_alike-are_all_alike-requires-then-symbol-other
are_alike-are_all_alike-requires-then-symbol-other t c = (omega (arith, weight_of_sym c.args.a.now c.in-Sym.symbol c.in-Sym.items c.in-Sym.is, ap weights c.as_slice-then-symbol-other.ensures), tt)

pub are_alike-are_all_alike-requires-then-symbol-other-2 : goal.are_alike-are_all_alike-requires-then-symbol-other-2
are_alike-are_all_alike-requires-then-symbol-other-2 t c =
    (omega (arith, weight_of_mark c.args.a.now c.in-Mark.symbol c.in-Mark.items c.in-Mark.is, ap weights c.as_slice-then-symbol-other-2-2.ensures), tt)

pub are_alike-are_all_alike-requires-then-are_alike : goal.are_alike-are_all_alike-requires-then-are_alike
are_alike-are_all_alike-requires-then-are_alike t c = (omega (arith, weight_of_apply c.args.a.now c.in-Apply.head c.in-Apply.items c.in-Apply.is, ap weights c.as_slice-then-are_alike.ensures), tt)

pub are_alike-returns-then-same_type : goal.are_alike-returns-then-same_type
are_alike-returns-then-same_type t c so = elim c.if-meta-other.branch [
  | are_alike-then-meta-other w ↦
      alike_meta c.args.a.now c.args.b.now c.in-Meta.meta c.in-Meta-b.other c.in-Meta.kind c.in-Meta-b.other_kind c.in-Meta.items c.in-Meta-b.others c.in-Meta.is c.in-Meta-b.is
      w.if-meta-other.true (w.same_type.ensures.0 (sym w.value-is ∙ c.if-same_type.true))
      (sym (ap plains c.as_slice.ensures) ∙ c.are_all_alike.ensures so ∙ ap plains c.as_slice-then-same_type.ensures)
  | are_alike-else-meta-other w ↦ absurd (w.if-meta-other.false (eqb-true c.in-Meta.meta c.in-Meta-b.other (sym w.value-is ∙ c.if-same_type.true)))
]

pub are_alike-returns-then-symbol-other : goal.are_alike-returns-then-symbol-other
are_alike-returns-then-symbol-other t c so =
    alike_sym c.args.a.now c.args.b.now c.in-Sym.symbol c.in-Sym-b.other c.in-Sym.items c.in-Sym-b.others c.in-Sym.is c.in-Sym-b.is c.if-symbol-other.true
    (sym (ap plains c.as_slice-then-symbol-other.ensures) ∙ c.are_all_alike-then-symbol-other.ensures so ∙ ap plains c.as_slice-then-symbol-other-2.ensures)

pub are_alike-returns-then-symbol-other-2 : goal.are_alike-returns-then-symbol-other-2
are_alike-returns-then-symbol-other-2 t c so =
    alike_mark c.args.a.now c.args.b.now c.in-Mark.symbol c.in-Mark-b.other c.in-Mark.items c.in-Mark-b.others c.in-Mark.is c.in-Mark-b.is c.if-symbol-other-2.true
    (sym (ap plains c.as_slice-then-symbol-other-2-2.ensures) ∙ c.are_all_alike-then-symbol-other-2.ensures so ∙ ap plains c.as_slice-then-symbol-other-2-3.ensures)

pub are_alike-returns-then-are_alike : goal.are_alike-returns-then-are_alike
are_alike-returns-then-are_alike t c so =
    alike_apply c.args.a.now c.args.b.now c.in-Apply.head c.in-Apply-b.other c.in-Apply.items c.in-Apply-b.others c.in-Apply.is c.in-Apply-b.is
    (sym (ap plain c.deref-in-Apply-b.ensures) ∙ c.are_alike-in-Apply-b.ensures c.if-are_alike.true ∙ ap plain c.deref-in-Apply-b-2.ensures)
    (sym (ap plains c.as_slice-then-are_alike.ensures) ∙ c.are_all_alike-then-are_alike.ensures so ∙ ap plains c.as_slice-then-are_alike-2.ensures)

pub are_all_alike-are_alike-requires : goal.are_all_alike-are_alike-requires
are_all_alike-are_alike-requires t c = (omega (arith, weight_in c.args.items.now c.loop-i.i c.index-items-i.result c.loop-i-test.true c.index-items-i.is), tt)

pub are_all_alike-loop-i-preserved : goal.are_all_alike-loop-i-preserved
are_all_alike-loop-i-preserved t c =
    alike_next c.args.items.now c.args.others.now c.loop-i.i c.index-items-i.result c.index-others-i.result c.loop-i.invariant (c.are_alike.ensures (search rules)) c.loop-i-test.true
    (omega (arith, c.loop-i-test.true, c.if-items-others.false)) c.index-items-i.is c.index-others-i.is
