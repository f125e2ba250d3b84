use Rattle.std.proofs.Common.{[], reverse, not, ap, sym, ◌∙◌}
use Rattle.std.specs.Prelude.{◌==◌}
use Rattle.std.specs.List.{list_all}
use Rattle.wh_terms.specs.Erase.{tms}
use Rattle.wh_system_resolve.specs.Form.{are_distinct_bound}
use Rattle.wh_system_resolve.proofs.FormLemmas.{distinct_next, distinct_seen, distinct_other, distinct_end}
use Rattle.wh_system_resolve.proofs.form.are_distinct.Goals as goal

pub returns-in_default : goal.returns-in_default
returns-in_default c =
    let xs = c.args.items.now in
    sym (distinct_other xs c.loop-item.item-index c.item-item.result c.loop-item.seen.items (are_distinct_bound [] (tms xs)) c.loop-item-test.true c.item-item.is c.in_default.not-Bound c.loop-item.invariant)

pub returns-then-not-is_unseen : goal.returns-then-not-is_unseen
returns-then-not-is_unseen c =
    let xs = c.args.items.now in
    sym (distinct_seen xs c.loop-item.item-index c.item-item.result c.loop-item.seen.items c.in-Bound.number (are_distinct_bound [] (tms xs)) c.loop-item-test.true c.item-item.is c.in-Bound.is
    (ap (λ ns. list_all (λ j. not (c.in-Bound.number == j)) (reverse ns)) (sym c.deref.ensures.value) ∙ sym c.is_unseen.ensures ∙ c.if-not-is_unseen.true) c.loop-item.invariant)

pub loop-item-preserved : goal.loop-item-preserved
loop-item-preserved c =
    let xs = c.args.items.now in
    distinct_next xs c.loop-item.item-index c.item-item.result c.loop-item.seen.items c.push.new.self.items c.in-Bound.number (are_distinct_bound [] (tms xs)) c.loop-item-test.true c.item-item.is c.in-Bound.is
    (ap (λ ns. list_all (λ j. not (c.in-Bound.number == j)) (reverse ns)) (sym c.deref.ensures.value) ∙ sym c.is_unseen.ensures ∙ c.if-not-is_unseen.false) c.in_ok-push.ensures.items c.loop-item.invariant

pub returns : goal.returns
returns c =
    let xs = c.args.items.now in
    sym (distinct_end xs c.loop-item.item-index c.loop-item.seen.items (are_distinct_bound [] (tms xs)) c.loop-item-test.false c.loop-item.invariant)
