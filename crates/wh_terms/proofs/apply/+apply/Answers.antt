use Rattle.std.proofs.Common.{◌≡◌, subst, ap, ◌∙◌, arith}
use Rattle.std.specs.Prelude.{IfOk}
use Rattle.wh_terms.specs.Erase.{tm, tms}
use Rattle.wh_terms.proofs.TermLemmas.{weight_in_meta, weight_in_item}
use Rattle.wh_terms.proofs.ValuedLaws.{valued_meta, covers_meta, covers_item}
use Rattle.wh_terms.proofs.apply.+apply.Goals as goal

pub value_under-values_under-requires : goal.value_under-values_under-requires
value_under-values_under-requires t c = (
  omega (arith, weight_in_meta c.args.term.now c.in-Meta.meta c.in-Meta.items c.in-Meta.is),
  covers_meta c.args.by.now c.args.term.now c.in-Meta.meta c.in-Meta.items c.in-Meta.is c.requires,
)

pub value_under-returns-in-Some : goal.value_under-returns-in-Some
value_under-returns-in-Some t c =
    subst (λ v. IfOk c.insert.result (λ r. tm r ≡ v))
    (valued_meta c.args.depth c.args.by.now c.args.term.now c.in-Meta.meta c.in-Meta.items (tms c.as_slice.result.now) c.in-Some.body.now c.in-Meta.is
    (ap tms c.as_slice.ensures ∙ c.in_ok-values-in-Meta.ensures) c.in-Some.ensures.1)
    c.insert.ensures

pub values_under-value_under-requires : goal.values_under-value_under-requires
values_under-value_under-requires t c = (
  omega (arith, weight_in_item c.args.items.now c.as_slice-item-items.result.now c.loop-item.item-index c.item-item.result c.as_slice-item-items.ensures c.loop-item-test.true c.item-item.is),
  covers_item c.args.by.now c.args.items.now c.as_slice-item-items.result.now c.loop-item.item-index c.item-item.result c.as_slice-item-items.ensures c.loop-item-test.true c.item-item.is c.requires,
)
