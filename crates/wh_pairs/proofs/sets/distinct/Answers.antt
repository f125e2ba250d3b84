use Rattle.std.proofs.Common.{◌+◌, ℕ, List, get_or, sym, subst, ◌∙◌, Contains}
use Rattle.wh_pairs.specs.Sets.{IsSetOf}
use Rattle.wh_pairs.proofs.ByPlace.{number_at}
use Rattle.wh_pairs.proofs.PlacesBefore.{StandsBefore, before_all}
use Rattle.wh_pairs.proofs.SetLemmas.{distinct_push, distinct_skip, set_same}
use Rattle.wh_pairs.proofs.sets.distinct.Goals as goal
use Rattle.wh_pairs.proofs.sets.distinct.Goals.{then-is_above+in_ok-push, else-is_above}

pub loop-number-preserved : goal.loop-number-preserved
loop-number-preserved c =
    let xs = c.args.sorted.now in
    let set = c.loop-number.set in
    let i = c.loop-number.number-index in
    let n = get_or xs i 0 in
    let at = number_at xs i c.loop-number-test.true in
    let IsNext = λ (s : List ℕ). IsSetOf (StandsBefore xs (i + 1)) s in
    elim c.if-is_above.branch [
      | then-is_above+in_ok-push w ↦ subst IsNext (sym (w.set-is ∙ w.in_ok-push.ensures.ok)) (distinct_push xs set i n at c.loop-number.invariant (c.is_above.ensures.0 w.if-is_above.true))
      | else-is_above w ↦ subst IsNext (sym w.set-is) (distinct_skip xs set i n c.requires at c.loop-number.invariant (λ all. cc (c.is_above.ensures.1 all, w.if-is_above.false)))
    ]

pub returns : goal.returns
returns c =
    set_same (StandsBefore c.args.sorted.now c.loop-number.number-index) (Contains c.args.sorted.now) c.loop-number.set c.loop-number.invariant
    (before_all c.args.sorted.now c.loop-number.number-index c.loop-number-test.false)
