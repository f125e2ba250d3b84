use Rattle.std.proofs.Common.{◌<◌, Option, length, map, ap, subst, refl, arith}
use Rattle.std.specs.Global.{Vec}
use Rattle.wh_order_inference.specs.Inferences.{entries, all_entries}
use Rattle.wh_order_inference.specs.Said.{letter, inference, inferences}
use Rattle.wh_order_inference.specs.declared.inference.Inference.{out-Inference}
use Rattle.wh_order_path.specs.Verdict.{verdict, verdicts}
use Rattle.wh_order_node.specs.FilteringView.{filtering_data}
use Rattle.wh_order.specs.declared.goals.Goal.{Goal}
use Rattle.wh_order.specs.BadNumber.{number_of_bad}
use Rattle.wh_order.specs.Precedences.{order_of}
use Rattle.wh_order.specs.Claims.{task, AreGoals}
use Rattle.wh_order.proofs.CheckLemmas.{goal_at, judged_passed, rest_next, rest_bad, rest_end}
use Rattle.wh_order.proofs.JudgedLemmas.{goal_bad, count_bad, goal_judged, shape_of, entry_in, entries_in}
use Rattle.wh_order.proofs.check.+checking.Goals as goal

pub check_goal-check_goals-requires : goal.check_goal-check_goals-requires
check_goal-check_goals-requires t c = (
  omega (arith, entries_in c.args.inference.now (letter (out-Inference c.args.inference.now).letter) (out-Inference c.args.inference.now).place c.as_slice-parts.result.now (shape_of c.args.inference.now c.as_slice-parts.result.now c.as_slice-parts.ensures)),
  omega (arith, c.if-len-parts.true, ap length c.as_slice.ensures.value, c.len.ensures),
)

pub check_goal-returns-then-len-parts : goal.check_goal-returns-then-len-parts
check_goal-returns-then-len-parts t c =
    goal_judged number_of_bad (length (filtering_data c.args.filters.now).symbols) (order_of (filtering_data c.args.filters.now)) c.args.goal.now c.args.inference.now (letter (out-Inference c.args.inference.now).letter) (out-Inference c.args.inference.now).place c.as_slice-parts.result.now c.in-Some.goals c.as_slice.result.now c.args.at c.in_ok-sum-in-Some.field-0 c.check_goals.result c.as_slice.ensures.value
    (shape_of c.args.inference.now c.as_slice-parts.result.now c.as_slice-parts.ensures) (subst (λ (r : Option (Vec Goal)). AreGoals (length (filtering_data c.args.filters.now).symbols) (order_of (filtering_data c.args.filters.now)) c.args.goal.now (letter (out-Inference c.args.inference.now).letter) (out-Inference c.args.inference.now).place (inferences c.as_slice-parts.result.now) r) c.in-Some.is c.in_ok-goals.ensures) (omega (arith, c.if-len-parts.true, c.len.ensures)) c.in_ok-sum-in-Some.ensures c.check_goals.ensures

pub check_goal-returns-in-Some : goal.check_goal-returns-in-Some
check_goal-returns-in-Some t c =
    count_bad number_of_bad (length (filtering_data c.args.filters.now).symbols) (order_of (filtering_data c.args.filters.now)) c.args.goal.now c.args.inference.now (letter (out-Inference c.args.inference.now).letter) (out-Inference c.args.inference.now).place c.as_slice-parts.result.now c.in-Some.goals c.args.at (record { at = c.args.at })
    (shape_of c.args.inference.now c.as_slice-parts.result.now c.as_slice-parts.ensures) (subst (λ (r : Option (Vec Goal)). AreGoals (length (filtering_data c.args.filters.now).symbols) (order_of (filtering_data c.args.filters.now)) c.args.goal.now (letter (out-Inference c.args.inference.now).letter) (out-Inference c.args.inference.now).place (inferences c.as_slice-parts.result.now) r) c.in-Some.is c.in_ok-goals.ensures) (λ e. absurd (omega (arith, c.if-len-parts.false, c.len.ensures, e))) refl

pub check_goal-returns : goal.check_goal-returns
check_goal-returns t c =
    goal_bad number_of_bad (length (filtering_data c.args.filters.now).symbols) (order_of (filtering_data c.args.filters.now)) c.args.goal.now c.args.inference.now (letter (out-Inference c.args.inference.now).letter) (out-Inference c.args.inference.now).place c.as_slice-parts.result.now c.args.at (record { at = c.args.at }) (shape_of c.args.inference.now c.as_slice-parts.result.now c.as_slice-parts.ensures) (subst (λ (r : Option (Vec Goal)). AreGoals (length (filtering_data c.args.filters.now).symbols) (order_of (filtering_data c.args.filters.now)) c.args.goal.now (letter (out-Inference c.args.inference.now).letter) (out-Inference c.args.inference.now).place (inferences c.as_slice-parts.result.now) r) c.in-None.is c.in_ok-goals.ensures) refl

pub check_goals-check_goal-requires : goal.check_goals-check_goal-requires
check_goals-check_goal-requires t c = (omega (arith, entry_in c.args.parts.now c.loop-i.i c.index-parts-i.result c.loop-i-test.true c.index-parts-i.is), tt)

pub check_goals-returns-in_err-next : goal.check_goals-returns-in_err-next
check_goals-returns-in_err-next t c w over =
    let inside : c.loop-i.i < length c.args.goals.now = omega (arith, c.requires, c.loop-i-test.true) in
    judged_passed number_of_bad c.loop-i.next c.args.at (verdict w.symbols (order_of (filtering_data c.args.filters.now)) w.metas (task (length (filtering_data c.args.filters.now).symbols) c.index-goals-i.result) (inference c.index-parts-i.result))
    (verdicts w.symbols (order_of (filtering_data c.args.filters.now)) w.metas (map (task (length (filtering_data c.args.filters.now).symbols)) c.args.goals.now) (inferences c.args.parts.now)) (entries (inference c.index-parts-i.result)) (all_entries (inferences c.args.parts.now)) c.in_err-next.field-0.0 c.from_residual.result c.from_residual.ensures.1
    (c.in_err-next.ensures w (goal_at (length (filtering_data c.args.filters.now).symbols) w c.args.goals.now c.loop-i.i c.index-goals-i.result over inside c.index-goals-i.is))
    (λ k bad. rest_bad w.symbols (order_of (filtering_data c.args.filters.now)) w.metas (length (filtering_data c.args.filters.now).symbols) c.args.goals.now c.args.parts.now c.args.at c.loop-i.next k c.loop-i.i c.index-goals-i.result c.index-parts-i.result (c.loop-i.invariant w over) inside
    c.loop-i-test.true c.index-goals-i.is c.index-parts-i.is bad)

pub check_goals-loop-i-preserved : goal.check_goals-loop-i-preserved
check_goals-loop-i-preserved t c w over =
    let inside : c.loop-i.i < length c.args.goals.now = omega (arith, c.requires, c.loop-i-test.true) in
    let judged = c.in_ok-next.ensures w (goal_at (length (filtering_data c.args.filters.now).symbols) w c.args.goals.now c.loop-i.i c.index-goals-i.result over inside c.index-goals-i.is) in
    rest_next w.symbols (order_of (filtering_data c.args.filters.now)) w.metas (length (filtering_data c.args.filters.now).symbols) c.args.goals.now c.args.parts.now c.args.at c.loop-i.next c.in_ok-next.next c.loop-i.i c.index-goals-i.result c.index-parts-i.result (c.loop-i.invariant w over) inside
    c.loop-i-test.true c.index-goals-i.is c.index-parts-i.is judged.0 judged.1

pub check_goals-returns : goal.check_goals-returns
check_goals-returns t c w over =
    rest_end w.symbols (order_of (filtering_data c.args.filters.now)) w.metas (length (filtering_data c.args.filters.now).symbols) c.args.goals.now c.args.parts.now c.args.at c.loop-i.next c.loop-i.i (c.loop-i.invariant w over) (omega (arith, c.requires, c.loop-i-test.false)) c.loop-i-test.false
