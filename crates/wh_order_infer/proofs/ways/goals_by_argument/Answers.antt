use Rattle.std.proofs.Common.{◌-◌, Option, [], ◌∷◌, length, subst, refl, arith}
use Rattle.std.specs.Global.{Vec}
use Rattle.wh_order_inference.specs.Inferences.{arguments}
use Rattle.wh_order_inference.specs.Said.{inferences}
use Rattle.wh_order_node.specs.FilteringView.{filtering_data}
use Rattle.wh_order.specs.Precedences.{order_of}
use Rattle.wh_order.specs.declared.goals.Goal.{Goal}
use Rattle.wh_order.specs.Claims.{AreGoals}
use Rattle.wh_order_infer.proofs.WayGoals.{pairs_none, pairs_past, pairs_some}
use Rattle.wh_order_infer.proofs.ways.goals_by_argument.Goals as goal

pub returns-then-number-len : goal.returns-then-number-len
returns-then-number-len c =
    pairs_past (filtering_data c.args.filters.now) c.args.goal.now c.in_ok-strict.strict c.args.place c.in-Some.goals c.in_ok-strict.ensures
    (subst (λ (r : Option (Vec Goal)). AreGoals (length (filtering_data c.args.filters.now).symbols) (order_of (filtering_data c.args.filters.now)) c.args.goal.now arguments 0 (inferences (c.in_ok-strict.strict ∷ [])) r) c.in-Some.is c.in_ok-goals.ensures)
    (omega (arith, c.if-number-len.true, c.len.ensures))

pub returns-in-Some : goal.returns-in-Some
returns-in-Some c =
    pairs_some (filtering_data c.args.filters.now) c.args.goal.now c.in_ok-strict.strict c.args.place (c.args.place - 1) c.in-Some.goals _ c.index_mut.result.now c.in_ok-strict.ensures
    (subst (λ (r : Option (Vec Goal)). AreGoals (length (filtering_data c.args.filters.now).symbols) (order_of (filtering_data c.args.filters.now)) c.args.goal.now arguments 0 (inferences (c.in_ok-strict.strict ∷ [])) r) c.in-Some.is c.in_ok-goals.ensures)
    (omega (arith, c.if-number-eq0.false)) (omega (arith, c.if-number-eq0.false, c.if-number-len.false, c.len.ensures)) c.index_mut.ensures.value refl

pub returns : goal.returns
returns c =
    pairs_none (filtering_data c.args.filters.now) c.args.goal.now c.in_ok-strict.strict c.args.place c.in_ok-strict.ensures
    (subst (λ (r : Option (Vec Goal)). AreGoals (length (filtering_data c.args.filters.now).symbols) (order_of (filtering_data c.args.filters.now)) c.args.goal.now arguments 0 (inferences (c.in_ok-strict.strict ∷ [])) r) c.in-None.is c.in_ok-goals.ensures)
