use Rattle.std.proofs.Common.{◌+◌, ◌≡◌, ◌≤◌, ℕ, List, Contains, Some, get_or, slice_get, length, sym, subst, ◌∙◌}
use Rattle.wh_pairs.specs.Sets.{IsSetOf}
use Rattle.wh_pairs.specs.PairData.{IsIncreasing}
use Rattle.wh_pairs.proofs.ByPlace.{number_at}
use Rattle.wh_pairs.proofs.Increasing.{search_misses, search_finds}
use Rattle.wh_pairs.proofs.SetLemmas.{KeptBefore, kept_above, kept_push, kept_skip, kept_end}
use Rattle.wh_pairs.proofs.sets.kept.Goals as goal
use Rattle.wh_pairs.proofs.sets.kept.Goals.{then-is_err+in_ok-push, else-is_err}

pub push-requires : goal.push-requires
push-requires c =
    let items = c.as_slice-number-items.result.now in
    let i = c.loop-number.number-index in
    let at = subst (λ (l : List ℕ). slice_get l i ≡ Some (get_or items i 0)) c.as_slice-number-items.ensures.numbers (number_at items i c.loop-number-test.true) in
    kept_above c.args.set.now c.args.drop.now c.loop-number.rest i (get_or items i 0) c.as_slice-number-items.ensures.increasing at c.loop-number.invariant

pub loop-number-preserved : goal.loop-number-preserved
loop-number-preserved c =
    let set = c.args.set.now in
    let drop = c.args.drop.now in
    let dropped = c.in_ok-dropped.dropped in
    let items = c.as_slice-number-items.result.now in
    let rest = c.loop-number.rest in
    let i = c.loop-number.number-index in
    let n = get_or items i 0 in
    let at = subst (λ (l : List ℕ). slice_get l i ≡ Some n) c.as_slice-number-items.ensures.numbers (number_at items i c.loop-number-test.true) in
    let up = subst IsIncreasing (sym c.as_slice.ensures.numbers) c.as_slice.ensures.increasing in
    let IsNext = λ (s : List ℕ). IsSetOf (KeptBefore set drop (i + 1)) s in
    elim c.if-is_err.branch [
      | then-is_err+in_ok-push w ↦ subst IsNext (sym (w.rest-is ∙ w.in_ok-push.ensures.ok)) (kept_push set drop rest i n c.as_slice-number-items.ensures.increasing at
          (λ there. search_misses c.as_slice.result.now n c.binary_search.result up c.binary_search.ensures.position (sym c.is_err.ensures.value ∙ w.if-is_err.true)
          (subst (λ (l : List ℕ). Contains l n) (sym c.as_slice.ensures.numbers) ((c.in_ok-dropped.ensures.each n).1 there))) c.loop-number.invariant)
      | else-is_err w ↦ subst IsNext (sym w.rest-is) (kept_skip set drop rest i n at
          ((c.in_ok-dropped.ensures.each n).0 (subst (λ (l : List ℕ). Contains l n) c.as_slice.ensures.numbers (search_finds c.as_slice.result.now n c.binary_search.result up c.binary_search.ensures.position (sym c.is_err.ensures.value ∙ w.if-is_err.false)))) c.loop-number.invariant)
    ]

pub returns : goal.returns
returns c =
    let past = subst (λ (l : List ℕ). length l ≤ c.loop-number.number-index) c.as_slice-number-items.ensures.numbers c.loop-number-test.false in
    kept_end c.args.set.now c.args.drop.now c.loop-number.rest c.loop-number.number-index past c.loop-number.invariant
