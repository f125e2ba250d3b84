use Rattle.std.proofs.Common.{◌≡◌, ◌-◌, suc, arith}
use Rattle.wh_reduction_pairs.specs.TaskView.{task_data}
use Rattle.wh_poly_ranges.specs.Bounds.{lists_of}
use Rattle.wh_poly_ranges.proofs.Kept.{told, kept_then, low_back, lowered}
use Rattle.wh_poly_ranges.proofs.narrowing.lower.Goals as goal

pub returns-in_ok-set-3-clause-kept : goal.returns-in_ok-set-3-clause-kept
returns-in_ok-set-3-clause-kept c =
    let t = c.args.task.now in
    let n = c.args.at.number in
    let j = c.args.at.place in
    let low = lists_of c.args.ranges.now.low in
    let high = lists_of c.args.ranges.now.high in
    let mid = lists_of c.set.new.self in
    let back = lists_of c.set-2.new.self in
    let down = lists_of c.set-then-out.new.self in
    let most = c.at-most.result in
    let next : suc (most - 1) ≡ most = omega (arith, c.at-most.ensures, c.requires.open) in
    kept_then (task_data t) c.args.goal.strict low high low down back down
    (lowered (task_data t) c.args.goal.strict n j most (most - 1) low high mid down
    c.in_ok-set.ensures.value c.in_ok-set-3.ensures.value c.at-most.ensures next c.requires.open (told c.in_ok-out.out _ c.if-out.true c.in_ok-out.ensures))
    (low_back (task_data t) c.args.goal.strict n j most c.at-least.result low down mid back c.in_ok-set.ensures.value c.in_ok-set-2.ensures.value
    c.at-least.ensures)

pub returns-else-out-clause-kept : goal.returns-else-out-clause-kept
returns-else-out-clause-kept c =
    let t = c.args.task.now in
    low_back (task_data t) c.args.goal.strict c.args.at.number c.args.at.place c.at-most.result c.at-least.result
    (lists_of c.args.ranges.now.low) (lists_of c.args.ranges.now.high) (lists_of c.set.new.self) (lists_of c.set-2.new.self)
    c.in_ok-set.ensures.value c.in_ok-set-2.ensures.value c.at-least.ensures
