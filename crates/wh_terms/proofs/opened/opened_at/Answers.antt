use Rattle.std.proofs.Common.{◌≡◌, ◌+◌, ◌≤◌, ℕ, List, length, get_or, refl, sym, ap, ap₂, ◌∙◌, rules}
use Rattle.wh_types.specs.Erase.{ty}
use Rattle.wh_terms.specs.Tree.{lam}
use Rattle.wh_terms.specs.Erase.{tm}
use Rattle.wh_terms.proofs.PassedLemmas.{down_lam, down_function, down_argument, no_body, no_child, childless, from_here}
use Rattle.wh_terms.proofs.opened.opened_at.Goals as goal
use Rattle.wh_terms.proofs.opened.opened_at.Goals.{in-Lam+else-step-ne0+in_ok-push-in-Lam, in-App+in-0, in-App+in-1}

pub returns-then-step-ne0 : goal.returns-then-step-ne0
returns-then-step-ne0 c =
    let path : List ℕ = c.as_slice-step-items.result.now in
    let i : ℕ = c.loop-step.step-index in
    sym (c.loop-step.invariant.0
    ∙ ap (λ p. from_here c.args.first p i c.loop-step.kinds.items (tm c.loop-step.here.now)) (sym c.as_slice-step-items.ensures.steps)
    ∙ no_body c.args.first path i (get_or path i 0) c.loop-step.kinds.items (ty c.in-Lam.kind) (tm c.in-Lam.body.value) (tm c.loop-step.here.now)
    c.loop-step-test.true refl c.if-step-ne0.true (ap tm c.in-Lam.is))

pub loop-step-preserved : goal.loop-step-preserved
loop-step-preserved c =
    let path : List ℕ = c.as_slice-step-items.result.now in
    let i : ℕ = c.loop-step.step-index in
    let start = c.loop-step.invariant.0 ∙ ap (λ p. from_here c.args.first p i c.loop-step.kinds.items (tm c.loop-step.here.now)) (sym c.as_slice-step-items.ensures.steps) in
    let finish = ap (λ p. from_here c.args.first p (i + 1) c.match-here.kinds.items (tm c.match-here.here.now)) c.as_slice-step-items.ensures.steps in
    elim c.match-here.branch [
      | in-Lam+else-step-ne0+in_ok-push-in-Lam w ↦
          let pushed = rw w.in_ok-push-in-Lam.was at w.push.ensures.items in
          let here : tm c.match-here.here.now ≡ tm w.in-Lam.body.value = search rules in
          let more : length c.match-here.kinds.items ≤ i + 1 = search rules in (
            start
                ∙ down_lam c.args.first path i (get_or path i 0) c.loop-step.kinds.items c.match-here.kinds.items _ (tm c.match-here.here.now) (tm c.loop-step.here.now)
                c.loop-step-test.true refl w.if-step-ne0.false (ap (λ v. v.items) w.kinds-is ∙ pushed) (ap tm w.in-Lam.is ∙ ap (lam (ty w.in-Lam.kind)) (sym here))
                ∙ finish,
            more,
          )
      | in-App+in-0 w ↦
          let here : tm c.match-here.here.now ≡ tm w.in-App.function.value = search rules in
          let more : length c.match-here.kinds.items ≤ i + 1 = search rules in (
            start
                ∙ down_function c.args.first path i (get_or path i 0) c.loop-step.kinds.items (tm w.in-App.function.value) (tm w.in-App.argument.value) (tm c.loop-step.here.now)
                c.loop-step-test.true refl w.in-0.is (ap tm w.in-App.is)
                ∙ ap₂ (λ ks t. from_here c.args.first path (i + 1) ks t) (ap (λ v. v.items) (sym w.kinds-is)) (sym here)
                ∙ finish,
            more,
          )
      | in-App+in-1 w ↦
          let here : tm c.match-here.here.now ≡ tm w.in-App.argument.value = search rules in
          let more : length c.match-here.kinds.items ≤ i + 1 = search rules in (
            start
                ∙ down_argument c.args.first path i (get_or path i 0) c.loop-step.kinds.items (tm w.in-App.function.value) (tm w.in-App.argument.value) (tm c.loop-step.here.now)
                c.loop-step-test.true refl w.in-1.is (ap tm w.in-App.is)
                ∙ ap₂ (λ ks t. from_here c.args.first path (i + 1) ks t) (ap (λ v. v.items) (sym w.kinds-is)) (sym here)
                ∙ finish,
            more,
          )
    ]

pub returns-in-Bound : goal.returns-in-Bound
returns-in-Bound c =
    let path : List ℕ = c.as_slice-step-items.result.now in
    let i : ℕ = c.loop-step.step-index in
    sym (c.loop-step.invariant.0
    ∙ ap (λ p. from_here c.args.first p i c.loop-step.kinds.items (tm c.loop-step.here.now)) (sym c.as_slice-step-items.ensures.steps)
    ∙ no_child c.args.first path i (get_or path i 0) c.loop-step.kinds.items (tm c.loop-step.here.now) c.loop-step-test.true refl
    (childless c.loop-step.here.now c.in-Bound.is))
