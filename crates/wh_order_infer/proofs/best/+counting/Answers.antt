use Rattle.std.proofs.Common.{◌≡◌, ℕ, ◌+◌, ◌-◌, Bor, Option, Some, length, drop, subst, sym, ◌∙◌, refl, arith}
use Rattle.std.specs.Global.{Vec}
use Rattle.wh_order_inference.specs.Said.{letter}
use Rattle.wh_order_node.specs.FilteringView.{filtering_data}
use Rattle.wh_order_node.specs.declared.filters.Filters.{Filters}
use Rattle.wh_order.specs.declared.goals.Goal.{Goal}
use Rattle.wh_order_known.specs.Least.{NotRefuted}
use Rattle.wh_order_known.specs.Counts.{IsLeastCount, count_of}
use Rattle.wh_order_infer.specs.Bests.{AreGoalsBy, IsBestAt, IsBestBy, IsLeastTotal, IsSum}
use Rattle.wh_order_infer.proofs.BestLemmas.{ByLetters, best_counted, best_one, letters_next, letters_all, places_next, places_all, at_choice, total_first, total_next, total_stop}
use Rattle.wh_order_infer.proofs.best.+counting.Goals as goal

pub best-loop-number-preserved : goal.best-loop-number-preserved
best-loop-number-preserved t c =
    let found = subst (λ (f : Bor Filters). NotRefuted (IsBestBy (filtering_data f.now) c.args.room c.args.goal.now c.letter_at-letter.result c.in_ok-own.own)) c.loop-number.invariant.0 c.in_ok-own.ensures.found in (
      c.in_ok-own.ensures.filters ∙ c.loop-number.invariant.0,
      λ refuted. c.loop-number.invariant.1 (λ before. found (λ own. refuted
          (letters_next (filtering_data c.args.known.now.filters.now) c.args.room c.args.goal.now c.loop-number.number c.letter_at-letter.result c.loop-number.found c.in_ok-own.own c.lesser-found.result
          c.letter_at-letter.ensures c.lesser-found.ensures before own))),
    )

pub best-returns-then-has_one_entry-clause-found : goal.best-returns-then-has_one_entry-clause-found
best-returns-then-has_one_entry-clause-found t c refuted =
    let found = subst (λ (f : Bor Filters). NotRefuted (IsBestBy (filtering_data f.now) c.args.room c.args.goal.now c.letter_at-letter.result c.in_ok-own.own)) c.loop-number.invariant.0 c.in_ok-own.ensures.found in
    c.loop-number.invariant.1 (λ before. found (λ own. refuted
    (best_one (ByLetters (c.loop-number.number + 1)) (filtering_data c.args.known.now.filters.now) c.args.room c.args.goal.now c.lesser-found.result (c.has_one_entry.ensures.0 c.if-has_one_entry.true)
    (letters_next (filtering_data c.args.known.now.filters.now) c.args.room c.args.goal.now c.loop-number.number c.letter_at-letter.result c.loop-number.found c.in_ok-own.own c.lesser-found.result
    c.letter_at-letter.ensures c.lesser-found.ensures before own))))

pub best-returns-clause-found : goal.best-returns-clause-found
best-returns-clause-found t c refuted =
    c.loop-number.invariant.1 (λ all. refuted
    (letters_all (filtering_data c.args.known.now.filters.now) c.args.room c.args.goal.now c.loop-number.number c.loop-number.found (omega (arith, c.loop-number-test.false)) all))

pub best_by-loop-place-preserved : goal.best_by-loop-place-preserved
best_by-loop-place-preserved t c =
    let found = subst (λ (f : Bor Filters). NotRefuted (IsBestAt (filtering_data f.now) c.args.room c.args.goal.now c.args.letter c.loop-place.place c.in_ok-own.own)) c.loop-place.invariant.0 c.in_ok-own.ensures.found in (
      c.in_ok-own.ensures.filters ∙ c.loop-place.invariant.0,
      λ refuted. c.loop-place.invariant.1 (λ before. found (λ own. refuted
          (places_next (filtering_data c.args.known.now.filters.now) c.args.room c.args.goal.now c.args.letter c.loop-place.place c.loop-place.found c.in_ok-own.own c.lesser-found.result
          c.lesser-found.ensures before own))),
    )

pub best_by-returns-clause-found : goal.best_by-returns-clause-found
best_by-returns-clause-found t c refuted =
    c.loop-place.invariant.1 (λ all. refuted
    (places_all (filtering_data c.args.known.now.filters.now) c.args.room c.args.goal.now c.args.letter c.loop-place.place c.loop-place.found c.tree-left.result.now c.arguments_of-items.result.now
    c.tree-left.ensures c.arguments_of-items.ensures (omega (arith, c.loop-place-test.false, c.in_ok-places.ensures, c.in_ok-count.ensures)) all))

pub choice_at-returns-in_ok-parts-in-Some-clause-found : goal.choice_at-returns-in_ok-parts-in-Some-clause-found
choice_at-returns-in_ok-parts-in-Some-clause-found t c refuted =
    c.in_ok-parts-in-Some.ensures.found (λ parts. refuted
    (at_choice (filtering_data c.args.known.now.filters.now) c.args.room (c.args.room - 1) c.args.goal.now c.args.letter c.args.place c.in-Some.goals c.as_slice.result.now c.in_ok-parts-in-Some.parts c.one_more.result
    c.as_slice.ensures.value (omega arith)
    (subst (λ (r : Option (Vec Goal)). AreGoalsBy (filtering_data c.args.known.now.filters.now) c.args.goal.now (letter c.args.letter) c.args.place r) c.in-Some.is c.in_ok-goals.ensures) parts c.one_more.ensures))

pub least-note_choice-requires : goal.least-note_choice-requires
least-note_choice-requires t c refuted =
    subst (λ (f : Bor Filters). NotRefuted (IsLeastCount (filtering_data f.now) c.args.room c.args.goal.now (count_of c.in_ok-choice.choice))) (sym c.in_ok-choice.ensures.filters)
    (λ other. c.in_ok-choice.ensures.found (λ best. other
    (best_counted (filtering_data c.args.known.now.filters.now) c.args.room c.args.goal.now c.in_ok-choice.choice best))) refuted

pub least-returns-clause-found : goal.least-returns-clause-found
least-returns-clause-found t c refuted =
    c.in_ok-choice.ensures.found (λ best. refuted
    (subst (λ (r : Option ℕ). IsLeastCount (filtering_data c.args.known.now.filters.now) c.args.room c.args.goal.now r) (sym c.count_of-count.ensures)
    (best_counted (filtering_data c.args.known.now.filters.now) c.args.room c.args.goal.now c.in_ok-choice.choice best)))

pub least-returns-then-known-asked-clause-found : goal.least-returns-then-known-asked-clause-found
least-returns-then-known-asked-clause-found t c refuted =
    c.in_ok-choice.ensures.found (λ best. refuted
    (subst (λ (r : Option ℕ). IsLeastCount (filtering_data c.args.known.now.filters.now) c.args.room c.args.goal.now r) (sym c.count_of-count.ensures)
    (best_counted (filtering_data c.args.known.now.filters.now) c.args.room c.args.goal.now c.in_ok-choice.choice best)))

pub total-loop-left-init : goal.total-loop-left-init
total-loop-left-init t c = (
  refl,
  omega arith,
  λ refuted. refuted (total_first (filtering_data c.args.known.now.filters.now) c.args.room c.args.goals.now (length c.args.goals.now) (omega arith)),
)

pub total-loop-left-preserved : goal.total-loop-left-preserved
total-loop-left-preserved t c =
    let found = subst (λ (f : Bor Filters). NotRefuted (IsLeastCount (filtering_data f.now) c.args.room c.index-goals-left.result c.in_ok-own.own)) c.loop-left.invariant.0 c.in_ok-own.ensures.found in (
      c.in_ok-own.ensures.filters ∙ c.loop-left.invariant.0,
      omega (arith, c.loop-left.invariant.1),
      λ refuted. c.loop-left.invariant.2 (λ rest. found (λ own. refuted
          (total_next (filtering_data c.args.known.now.filters.now) c.args.room c.args.goals.now c.loop-left.left (c.loop-left.left - 1) c.index-goals-left.result c.in_ok-own.own c.loop-left.entries c.in-Some.more
          (omega (arith, c.loop-left-test.true)) (omega (arith, c.loop-left-test.true, c.loop-left.invariant.1)) c.index-goals-left.is own rest
          (subst (IsSum c.in_ok-own.own c.loop-left.entries) c.in-Some.is c.sum_of.ensures)))),
    )

pub total-returns-in-None-clause-found : goal.total-returns-in-None-clause-found
total-returns-in-None-clause-found t c refuted =
    let found = subst (λ (f : Bor Filters). NotRefuted (IsLeastCount (filtering_data f.now) c.args.room c.index-goals-left.result c.in_ok-own.own)) c.loop-left.invariant.0 c.in_ok-own.ensures.found in
    c.loop-left.invariant.2 (λ rest. found (λ own. refuted
    (total_stop (filtering_data c.args.known.now.filters.now) c.args.room c.args.goals.now c.loop-left.left (c.loop-left.left - 1) c.index-goals-left.result c.in_ok-own.own c.loop-left.entries
    (omega (arith, c.loop-left-test.true)) (omega (arith, c.loop-left-test.true, c.loop-left.invariant.1)) c.index-goals-left.is own rest
    (subst (IsSum c.in_ok-own.own c.loop-left.entries) c.in-None.is c.sum_of.ensures))))

pub total-returns-clause-found : goal.total-returns-clause-found
total-returns-clause-found t c =
    let none : c.loop-left.left ≡ 0 = omega (arith, c.loop-left-test.false) in
    subst (λ (k : ℕ). NotRefuted (IsLeastTotal (filtering_data c.args.known.now.filters.now) c.args.room (drop k c.args.goals.now) (Some c.loop-left.entries))) none c.loop-left.invariant.2
