use Rattle.std.proofs.Common.{◌-◌, Bor, IfOk, Option, None, Some, subst, sym, ◌∙◌, arith}
use Rattle.std.specs.Global.{Vec}
use Rattle.wh_order_inference.specs.Said.{letter}
use Rattle.wh_order_inference.specs.declared.inference.Inference.{Inference}
use Rattle.wh_order_node.specs.FilteringView.{filtering_data}
use Rattle.wh_order_node.specs.declared.filters.Filters.{Filters}
use Rattle.wh_order.specs.declared.goals.Goal.{Goal}
use Rattle.wh_order_known.specs.declared.choice.Choice.{Choice}
use Rattle.wh_order_known.specs.Least.{NotRefuted}
use Rattle.wh_order_infer.specs.Bests.{AreGoalsBy, IsBest, IsLeastInference}
use Rattle.wh_order_infer.proofs.BuildLemmas.{no_best, no_room, no_goals, built_with, each_next, each_built, one_missing}
use Rattle.wh_order_infer.proofs.StableLemmas.{stable_inference}
use Rattle.wh_order_infer.proofs.build.+building.Goals as goal

pub build-returns-in-None-clause-found : goal.build-returns-in-None-clause-found
build-returns-in-None-clause-found t c =
    let D = filtering_data c.args.known.now.filters.now in
    let known = subst (λ (r : Option Choice). NotRefuted (IsBest D c.args.room c.args.goal.now r)) c.in-None.is c.in_ok-choice.ensures.found in
    stable_inference D c.args.room c.args.goal.now None (λ refuted. known (λ best. refuted (no_best D c.args.room c.args.goal.now best)))

pub build-build_by-requires : goal.build-build_by-requires
build-build_by-requires t c = (
  omega arith,
  subst (λ (f : Bor Filters). NotRefuted (IsBest (filtering_data f.now) c.args.room c.args.goal.now (Some c.in-Some.choice))) (sym c.in_ok-choice.ensures.filters)
      (subst (λ (r : Option Choice). NotRefuted (IsBest (filtering_data c.args.known.now.filters.now) c.args.room c.args.goal.now r)) c.in-Some.is c.in_ok-choice.ensures.found),
)

pub build-returns-in-Some-clause-found : goal.build-returns-in-Some-clause-found
build-returns-in-Some-clause-found t c =
    subst (λ (f : Bor Filters). IfOk c.build_by.result (IsLeastInference (filtering_data f.now) c.args.room c.args.goal.now)) c.in_ok-choice.ensures.filters c.build_by.ensures.found

pub build_by-returns-then-room-eq0-clause-found : goal.build_by-returns-then-room-eq0-clause-found
build_by-returns-then-room-eq0-clause-found t c = no_room (filtering_data c.args.known.now.filters.now) c.args.room c.args.goal.now c.if-room-eq0.true

pub build_by-returns-in_ok-parts-in-Some-clause-found : goal.build_by-returns-in_ok-parts-in-Some-clause-found
build_by-returns-in_ok-parts-in-Some-clause-found t c =
    let D = filtering_data c.args.known.now.filters.now in
    stable_inference D c.args.room c.args.goal.now c.made_with.result (λ refuted. c.requires (λ best. refuted
    (built_with D c.args.room (c.args.room - 1) c.args.goal.now c.args.choice c.in-Some.goals c.as_slice.result.now c.in_ok-parts-in-Some.parts c.made_with.result
    c.as_slice.ensures.value (omega arith) best
    (subst (λ (r : Option (Vec Goal)). AreGoalsBy D c.args.goal.now (letter c.args.choice.letter) c.args.choice.place r) c.in-Some.is c.in_ok-goals.ensures)
    c.in_ok-parts-in-Some.ensures.found c.made_with.ensures)))

pub build_by-returns-in-None-clause-found : goal.build_by-returns-in-None-clause-found
build_by-returns-in-None-clause-found t c =
    let D = filtering_data c.args.known.now.filters.now in
    stable_inference D c.args.room c.args.goal.now None (λ refuted. c.requires (λ best. refuted
    (no_goals D c.args.room c.args.goal.now c.args.choice best
    (subst (λ (r : Option (Vec Goal)). AreGoalsBy D c.args.goal.now (letter c.args.choice.letter) c.args.choice.place r) c.in-None.is c.in_ok-goals.ensures))))

pub build_each-loop-goal-preserved : goal.build_each-loop-goal-preserved
build_each-loop-goal-preserved t c =
    let found = subst (λ (f : Bor Filters). IsLeastInference (filtering_data f.now) c.args.room c.goal-item.result c.in_ok-part.field-0) c.loop-goal.invariant.0 c.in_ok-part.ensures.found in (
      c.in_ok-part.ensures.filters ∙ c.loop-goal.invariant.0,
      each_next (filtering_data c.args.known.now.filters.now) c.args.room c.args.goals.now c.loop-goal.goal-index c.loop-goal.parts c.push.new.self c.goal-item.result c.in-Some.part c.loop-goal.invariant.1
          (subst (λ (r : Option Inference). IsLeastInference (filtering_data c.args.known.now.filters.now) c.args.room c.goal-item.result r) c.in-Some.is found) c.loop-goal-test.true c.goal-item.is c.in_ok-push-in-Some.ensures.ok,
    )

pub build_each-returns-in-None-clause-found : goal.build_each-returns-in-None-clause-found
build_each-returns-in-None-clause-found t c =
    let found = subst (λ (f : Bor Filters). IsLeastInference (filtering_data f.now) c.args.room c.goal-item.result c.in_ok-part.field-0) c.loop-goal.invariant.0 c.in_ok-part.ensures.found in
    one_missing (filtering_data c.args.known.now.filters.now) c.args.room c.args.goals.now c.loop-goal.goal-index c.goal-item.result c.loop-goal-test.true c.goal-item.is
    (subst (λ (r : Option Inference). IsLeastInference (filtering_data c.args.known.now.filters.now) c.args.room c.goal-item.result r) c.in-None.is found)

pub build_each-returns-clause-found : goal.build_each-returns-clause-found
build_each-returns-clause-found t c = each_built (filtering_data c.args.known.now.filters.now) c.args.room c.args.goals.now c.loop-goal.goal-index c.loop-goal.parts c.loop-goal.invariant.1 c.loop-goal-test.false
