use Rattle.std.proofs.Common.{◌≡◌, ◌+◌, suc, arith}
use Rattle.wh_reduction_pairs.specs.TaskView.{task_data}
use Rattle.wh_poly_ranges.specs.Bounds.{lists_of}
use Rattle.wh_poly_ranges.specs.Excluded.{coefficient_in}
use Rattle.wh_poly_ranges.proofs.Kept.{told, has_more, kept_then, high_back, raised}
use Rattle.wh_poly_ranges.proofs.narrowing.raise.Goals as goal

pub returns-in_ok-set-3-clause-kept : goal.returns-in_ok-set-3-clause-kept
returns-in_ok-set-3-clause-kept c =
    let t = c.args.task.now in
    let n = c.args.at.number in
    let j = c.args.at.place in
    let low = lists_of c.args.ranges.now.low in
    let high = lists_of c.args.ranges.now.high in
    let mid = lists_of c.set.new.self in
    let back = lists_of c.set-2.new.self in
    let up = lists_of c.set-then-out.new.self in
    let least = c.at-least.result in
    let next : least + 1 ≡ suc least = omega arith in
    kept_then (task_data t) c.args.goal.strict low high up high up back
    (raised (task_data t) c.args.goal.strict n j least (least + 1) low high mid up
    c.in_ok-set.ensures.value c.in_ok-set-3.ensures.value c.at-least.ensures next c.requires.open (told c.in_ok-out.out _ c.if-out.true c.in_ok-out.ensures))
    (high_back (task_data t) c.args.goal.strict n j least c.at-most.result up high mid back c.in_ok-set.ensures.value c.in_ok-set-2.ensures.value
    c.at-most.ensures (has_more high n j (coefficient_in low n j) c.requires.open))

pub returns-else-out-clause-kept : goal.returns-else-out-clause-kept
returns-else-out-clause-kept c =
    let t = c.args.task.now in
    let n = c.args.at.number in
    let j = c.args.at.place in
    let low = lists_of c.args.ranges.now.low in
    let high = lists_of c.args.ranges.now.high in
    high_back (task_data t) c.args.goal.strict n j c.at-least.result c.at-most.result low high
    (lists_of c.set.new.self) (lists_of c.set-2.new.self) c.in_ok-set.ensures.value c.in_ok-set-2.ensures.value
    c.at-most.ensures (has_more high n j (coefficient_in low n j) c.requires.open)
