use Rattle.std.proofs.Common.{◌<◌, ℕ, length, ◌∙◌}
use Rattle.wh_reduction_pairs.specs.TaskView.{task_data}
use Rattle.wh_poly_guesses.specs.Conditions.{HasNoInterpretation}
use Rattle.wh_poly_ranges.specs.Bounds.{lists_of}
use Rattle.wh_poly_ranges.specs.Out.{IsOut}
use Rattle.wh_poly_ranges.proofs.Kept.{told, told_as}
use Rattle.wh_poly_ranges.proofs.Whole.{whole_out, each_out}
use Rattle.wh_poly_ranges.proofs.search.has_none.Goals as goal

pub returns-then-branch : goal.returns-then-branch
returns-then-branch c =
    let t = c.args.task.now in
    let ranges = c.in_ok-ranges.ranges in
    whole_out (task_data t) c.args.marked.now c.deref.result.now (lists_of ranges.low) (lists_of ranges.high)
    c.requires.marked (c.deref.ensures.value ∙ c.in_ok-sizes.ensures) (c.in_ok-ranges.ensures.low ∙ c.in_ok-span.ensures.low)
    (c.in_ok-ranges.ensures.high ∙ c.in_ok-span.ensures.high)
    (told c.in_ok-narrow_all.field-0 (IsOut t (length t.set.now) ranges) c.if-branch.true c.in_ok-narrow_all.ensures.out)

pub returns : goal.returns
returns c =
    let t = c.args.task.now in
    let ranges = c.in_ok-ranges.ranges in
    let narrowed = c.narrow_all.new.ranges in
    told_as c.none_is_strict.result ((i : ℕ) → i < length t.set.now → IsOut t i narrowed) (HasNoInterpretation (task_data t))
    (λ out. each_out (task_data t) c.args.marked.now c.deref.result.now (lists_of ranges.low) (lists_of ranges.high)
    c.requires.marked (c.deref.ensures.value ∙ c.in_ok-sizes.ensures) (c.in_ok-ranges.ensures.low ∙ c.in_ok-span.ensures.low)
    (c.in_ok-ranges.ensures.high ∙ c.in_ok-span.ensures.high)
    (lists_of narrowed.low) (lists_of narrowed.high) c.in_ok-narrow_all.ensures.kept out) c.none_is_strict.ensures
