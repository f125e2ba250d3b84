-- Each step of the walk, and each of its ends.
use Rattle.std.proofs.Common.{rules, refl, ◌+◌, ◌<◌, ◌≤◌, sym, subst, ◌∙◌, length}
use Rattle.wh_hopoly.proofs.CoverWalk.{Left, left_at_start, left_after_less, left_after_equal, refused_equal, refused_greater, all_found, at_least_by_lists, sorted_by_list, walk_ends}
use Rattle.wh_hopoly.proofs.covers.at_least.Goals as goal
use Rattle.wh_hopoly.proofs.covers.at_least.Goals.{in-Less, in-Equal+else-item-other}

pub loop-item-init : goal.loop-item-init
loop-item-init c = left_at_start c.as_slice-items.result.now c.as_slice-others.result.now (sorted_by_list c.args.a.now c.as_slice-items.result.now c.as_slice-items.ensures c.requires.left)
    (sorted_by_list c.args.b.now c.as_slice-others.result.now c.as_slice-others.ensures c.requires.right)

pub returns-then-next-others : goal.returns-then-next-others
returns-then-next-others c = let past : length c.as_slice-others.result.now ≤ c.loop-item.next = search rules in
    (λ _. (at_least_by_lists c.args.a.now c.args.b.now c.as_slice-items.result.now c.as_slice-others.result.now c.as_slice-items.ensures c.as_slice-others.ensures).0 (all_found c.as_slice-items.result.now c.as_slice-others.result.now c.loop-item.item-index c.loop-item.next c.loop-item.invariant past), λ _. refl)

pub returns-then-item-other : goal.returns-then-item-other
returns-then-item-other c = let within : c.loop-item.next < length c.as_slice-others.result.now = search rules in (
  λ no. cc,
  λ h. absurd (refused_equal c.as_slice-items.result.now c.as_slice-others.result.now c.loop-item.item-index c.loop-item.next c.item-item.result c.index-others-next.result c.loop-item.invariant c.loop-item-test.true within c.item-item.is c.index-others-next.is (sym c.order_factors.ensures ∙ c.in-Equal.is) c.if-item-other.true
      ((at_least_by_lists c.args.a.now c.args.b.now c.as_slice-items.result.now c.as_slice-others.result.now c.as_slice-items.ensures c.as_slice-others.ensures).1 h)),
)

pub returns-in-Greater : goal.returns-in-Greater
returns-in-Greater c = let within : c.loop-item.next < length c.as_slice-others.result.now = search rules in (
  λ no. cc,
  λ h. absurd (refused_greater c.as_slice-items.result.now c.as_slice-others.result.now c.loop-item.item-index c.loop-item.next c.item-item.result c.index-others-next.result c.loop-item.invariant c.loop-item-test.true within c.item-item.is c.index-others-next.is (sym c.order_factors.ensures ∙ c.in-Greater.is)
      ((at_least_by_lists c.args.a.now c.args.b.now c.as_slice-items.result.now c.as_slice-others.result.now c.as_slice-items.ensures c.as_slice-others.ensures).1 h)),
)

pub loop-item-preserved : goal.loop-item-preserved
loop-item-preserved c = let within : c.loop-item.next < length c.as_slice-others.result.now = search rules in
    elim c.match-order_factors.branch [
      | in-Less w ↦ subst (Left c.as_slice-items.result.now c.as_slice-others.result.now (c.loop-item.item-index + 1)) (sym w.next-is)
          (left_after_less c.as_slice-items.result.now c.as_slice-others.result.now c.loop-item.item-index c.loop-item.next c.item-item.result c.index-others-next.result c.loop-item.invariant c.loop-item-test.true within c.item-item.is c.index-others-next.is (sym c.order_factors.ensures ∙ w.in-Less.is))
      | in-Equal+else-item-other w ↦ subst (Left c.as_slice-items.result.now c.as_slice-others.result.now (c.loop-item.item-index + 1)) (sym w.next-is)
          (left_after_equal c.as_slice-items.result.now c.as_slice-others.result.now c.loop-item.item-index c.loop-item.next c.item-item.result c.index-others-next.result c.loop-item.invariant c.loop-item-test.true within c.item-item.is c.index-others-next.is (sym c.order_factors.ensures ∙ w.in-Equal.is) w.if-item-other.false)
    ]

pub returns : goal.returns
returns c = let walked = walk_ends c.as_slice-items.result.now c.as_slice-others.result.now c.loop-item.item-index c.loop-item.next c.loop-item.invariant c.loop-item-test.false in
    let lists = at_least_by_lists c.args.a.now c.args.b.now c.as_slice-items.result.now c.as_slice-others.result.now c.as_slice-items.ensures c.as_slice-others.ensures in
    (λ yes. lists.0 (walked.0 yes), λ h. walked.1 (lists.1 h))
