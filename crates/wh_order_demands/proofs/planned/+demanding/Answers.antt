use Rattle.std.proofs.Common.{◌≡◌, ◌+◌, ◌-◌, List, Option, Some, IfOk, ap, subst, sym, arith}
use Rattle.wh_terms.specs.Erase.{tm}
use Rattle.wh_order_demands.specs.declared.demand.Demand.TheVariants.{Always, Never}
use Rattle.wh_order_demands.specs.declared.plan.Part.{Part}
use Rattle.wh_order_demands.specs.declared.plan.Order.{Order}
use Rattle.wh_order_demands.specs.declared.plan.Plan.{Plan}
use Rattle.wh_order_demands.specs.Plans.{AllData, part_data, parts_data, order_data, whole_data, plan_data, all_data, IsPlan}
use Rattle.wh_order_demands.specs.Planned.{MeetsSome, MeetsAll, MeetsOrder, MeetsPlan, MeetsFirstFrom}
use Rattle.wh_order_demands.proofs.PlannedLemmas.{first_none, first_more, first_all, all_none, all_more, all_met, differ_none, differ_more, first_demanded, part_at, parts_count, others_demanded, free_met, same_met, whole_met, plan_either, plan_some, planned_possible}
use Rattle.wh_order_demands.proofs.planned.+demanding.Goals as goal

pub some_of-loop-part-init : goal.some_of-loop-part-init
some_of-loop-part-init t c = first_none c.args.spots.now (parts_data c.args.parts.now)

pub some_of-loop-part-preserved : goal.some_of-loop-part-preserved
some_of-loop-part-preserved t c =
    first_more c.args.spots.now (parts_data c.args.parts.now) c.loop-part.part-index (part_data c.part-item.result) c.loop-part.found c.in_ok-own.own c.in_ok-is_set.is_set c.in_ok-met.met c.in_ok-found.found
    (part_at c.args.parts.now c.loop-part.part-index c.part-item.result c.part-item.is c.loop-part-test.true)
    c.in_ok-own.ensures c.in_ok-is_set.ensures c.in_ok-met.ensures c.in_ok-found.ensures c.loop-part.invariant

pub some_of-returns : goal.some_of-returns
some_of-returns t c =
    first_all c.args.spots.now (parts_data c.args.parts.now) c.loop-part.part-index c.loop-part.found
    (omega (arith, parts_count c.args.parts.now, c.loop-part-test.false)) c.loop-part.invariant

pub all_of-loop-part-init : goal.all_of-loop-part-init
all_of-loop-part-init t c = all_none c.args.spots.now (parts_data c.args.parts.now)

pub all_of-loop-part-preserved : goal.all_of-loop-part-preserved
all_of-loop-part-preserved t c =
    all_more c.args.spots.now (parts_data c.args.parts.now) c.loop-part.part-index (part_data c.part-item.result) c.loop-part.found c.in_ok-own.own c.in_ok-is_unset.is_unset c.in_ok-met.met c.in_ok-found.found
    (part_at c.args.parts.now c.loop-part.part-index c.part-item.result c.part-item.is c.loop-part-test.true)
    c.in_ok-own.ensures c.in_ok-is_unset.ensures c.in_ok-met.ensures c.in_ok-found.ensures c.loop-part.invariant

pub all_of-returns : goal.all_of-returns
all_of-returns t c =
    all_met c.args.spots.now (parts_data c.args.parts.now) c.loop-part.part-index c.loop-part.found
    (omega (arith, parts_count c.args.parts.now, c.loop-part-test.false)) c.loop-part.invariant

pub first_of-loop-place-init : goal.first_of-loop-place-init
first_of-loop-place-init t c = record {
  within = omega arith;
  meets = subst (λ n. MeetsFirstFrom c.args.spots.now n (parts_data c.args.parts.now) Never) (parts_count c.args.parts.now) (differ_none c.args.spots.now (parts_data c.args.parts.now));
}

pub first_of-loop-place-preserved : goal.first_of-loop-place-preserved
first_of-loop-place-preserved t c =
    let j = c.loop-place.place - 1 in
    let next : c.loop-place.place ≡ j + 1 = omega arith in
    record {
      within = omega (arith, c.loop-place.invariant.within);
      meets = differ_more c.args.spots.now (parts_data c.args.parts.now) c.loop-place.place j (part_data c.index-parts-place.result) c.loop-place.found c.in_ok-found.found next
          (part_at c.args.parts.now j c.index-parts-place.result c.index-parts-place.is (omega (arith, c.loop-place.invariant.within))) c.loop-place.invariant.meets c.in_ok-found.ensures;
    }

pub first_of-returns : goal.first_of-returns
first_of-returns t c =
    let done : c.loop-place.place ≡ 0 = omega arith in
    subst (λ n. MeetsFirstFrom c.args.spots.now n (parts_data c.args.parts.now) c.loop-place.found) done c.loop-place.invariant.meets

pub first_from-returns : goal.first_from-returns
first_from-returns t c =
    first_demanded c.args.spots.now (part_data c.args.part.now) c.in_ok-greater.greater c.in_ok-equal.equal c.in_ok-is_set.is_set c.in_ok-is_unset.is_unset c.in_ok-here.here c.in_ok-same.same c.in_ok-later.later
    c.args.rest c.either-2.result c.in_ok-greater.ensures c.in_ok-equal.ensures c.in_ok-is_set.ensures c.in_ok-is_unset.ensures c.in_ok-here.ensures c.in_ok-same.ensures c.in_ok-later.ensures c.either-2.ensures

pub others_of-returns : goal.others_of-returns
others_of-returns t c =
    let o = c.args.others.now in
    let some : MeetsSome c.args.spots.now (parts_data o.parts.items) c.in_ok-some.some =
    subst (λ (l : List Part). MeetsSome c.args.spots.now (parts_data l) c.in_ok-some.some) c.as_slice.ensures.value c.in_ok-some.ensures in
    others_demanded c.args.spots.now o.first o.count o.above o.below (parts_data o.parts.items) c.in_ok-some.some c.in_ok-level.level c.in_ok-low.low c.in_ok-picks.picks c.either-2.result
    some c.in_ok-level.ensures c.in_ok-low.ensures c.in_ok-picks.ensures c.either-2.ensures

pub order_of-returns-in-Free : goal.order_of-returns-in-Free
order_of-returns-in-Free t c = subst (λ (o : Order). MeetsOrder c.args.spots.now (order_data o) Always) (sym c.in-Free.is) (free_met c.args.spots.now)

pub order_of-returns-in-Same : goal.order_of-returns-in-Same
order_of-returns-in-Same t c =
    let ps = c.in-Same.parts.items in
    let first : IfOk c.first_of.result (MeetsFirstFrom c.args.spots.now 0 (parts_data ps)) =
    subst (λ (l : List Part). IfOk c.first_of.result (MeetsFirstFrom c.args.spots.now 0 (parts_data l))) c.as_slice.ensures.value c.first_of.ensures in
    subst (λ (o : Order). IfOk c.first_of.result (MeetsOrder c.args.spots.now (order_data o))) (sym c.in-Same.is) (same_met c.args.spots.now (parts_data ps) c.first_of.result first)

pub order_of-returns-in-Other : goal.order_of-returns-in-Other
order_of-returns-in-Other t c =
    subst (λ (o : Order). IfOk c.others_of.result (MeetsOrder c.args.spots.now (order_data o))) (sym c.in-Other.is) c.others_of.ensures

pub whole_of-returns : goal.whole_of-returns
whole_of-returns t c =
    let w = c.args.whole.now in
    let all : MeetsAll c.args.spots.now (parts_data w.parts.items) c.in_ok-all.all =
    subst (λ (l : List Part). MeetsAll c.args.spots.now (parts_data l) c.in_ok-all.all) c.as_slice.ensures.value c.in_ok-all.ensures in
    whole_met c.args.spots.now (whole_data w) c.in_ok-unset.unset c.in_ok-all.all c.in_ok-order.order c.in_ok-rest.rest c.both-2.result c.both-2.ensures c.in_ok-rest.ensures
    c.in_ok-unset.ensures all c.in_ok-order.ensures

pub demand_of-returns-in-Some : goal.demand_of-returns-in-Some
demand_of-returns-in-Some t c =
    let found : IsPlan c.args.spots.now c.args.claim (tm c.args.from.now) (tm c.args.to.now) (Some c.in-Some.plan) =
    subst (λ (o : Option Plan). IsPlan c.args.spots.now c.args.claim (tm c.args.from.now) (tm c.args.to.now) o) c.in-Some.is c.in_ok-plan-in_default.ensures in
    planned_possible c.args.spots.now c.args.claim (tm c.args.from.now) (tm c.args.to.now) (plan_data c.in-Some.plan) c.planned.result found c.planned.ensures

pub planned-returns-in_ok-all-in-Some : goal.planned-returns-in_ok-all-in-Some
planned-returns-in_ok-all-in-Some t c =
    let ps = c.args.plan.now.some.items in
    let q = whole_data c.in-Some.whole in
    let first : MeetsSome c.args.spots.now (parts_data ps) c.in_ok-some.some =
    subst (λ (l : List Part). MeetsSome c.args.spots.now (parts_data l) c.in_ok-some.some) c.as_slice.ensures.value c.in_ok-some.ensures in
    subst (λ (o : Option AllData). IfOk c.either.result (MeetsPlan c.args.spots.now (record { some = parts_data ps; all = o }))) (sym (ap all_data c.in-Some.is))
    (plan_either c.args.spots.now (parts_data ps) q c.in_ok-some.some c.in_ok-all-in-Some.all c.either.result c.either.ensures first c.in_ok-all-in-Some.ensures)

pub planned-returns-in-None : goal.planned-returns-in-None
planned-returns-in-None t c =
    let ps = c.args.plan.now.some.items in
    let first : MeetsSome c.args.spots.now (parts_data ps) c.in_ok-some.some =
    subst (λ (l : List Part). MeetsSome c.args.spots.now (parts_data l) c.in_ok-some.some) c.as_slice.ensures.value c.in_ok-some.ensures in
    subst (λ (o : Option AllData). MeetsPlan c.args.spots.now (record { some = parts_data ps; all = o }) c.in_ok-some.some) (sym (ap all_data c.in-None.is))
    (plan_some c.args.spots.now (parts_data ps) c.in_ok-some.some first)
