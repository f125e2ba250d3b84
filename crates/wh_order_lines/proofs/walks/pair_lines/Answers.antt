use Rattle.std.proofs.Common.{◌≡◌, ◌+◌, ℕ, List, length, get_or, sym, subst, ◌∙◌, arith}
use Rattle.wh_pairs.specs.PairData.{pair_data}
use Rattle.wh_pairs.proofs.ByPlace.{number_at, contains_at}
use Rattle.wh_reduction_pairs.specs.TaskView.{task_data}
use Rattle.wh_reduction_pairs.proofs.TaskLemmas.{pair_at}
use Rattle.wh_order_node.specs.FilteringView.{filtering_data}
use Rattle.wh_order_lines.proofs.Matched.{matched_some, matched_none}
use Rattle.wh_order_lines.specs.Oriented.{MeetsPair}
use Rattle.wh_order_lines.specs.OrderLines.{IsPairLine}
use Rattle.wh_order_lines.proofs.WalkLemmas.{HasPairLines, pair_kept, pair_dropped, pair_lines_all}
use Rattle.wh_order_lines.proofs.walks.pair_lines.Goals.{then-line+in_ok-push-2, else-line}
use Rattle.wh_order_lines.proofs.walks.pair_lines.Goals as goal

pub pair_line-requires-clause-typed : goal.pair_line-requires-clause-typed
pair_line-requires-clause-typed c =
    let T = task_data c.args.task.now in
    let i = c.loop-i.i in
    c.requires.typed _ (contains_at T.pairs (get_or T.set i 0) _ (pair_at c.args.task.now c.requires.task i c.index-task-number.result c.loop-i-test.true))

pub loop-i-preserved : goal.loop-i-preserved
loop-i-preserved c =
    let t = c.args.task.now in
    let T = task_data t in
    let D = filtering_data c.args.filters.now in
    let i = c.loop-i.i in
    let n = get_or T.set i 0 in
    let p = pair_data (get_or t.pairs.now n c.index-task-number.result) in
    let line = c.in-Some.line in
    let place = number_at T.set i c.loop-i-test.true in
    let at = pair_at t c.requires.task i c.index-task-number.result c.loop-i-test.true in
    let up = c.requires.task.increasing in
    let found = matched_some c.in_ok-line.field-0 line (MeetsPair T.symbols T.rules D p → ⊥) (IsPairLine T.symbols T.rules D p) c.in-Some.is c.in_ok-line.ensures in
    elim c.if-line.branch [
      | then-line+in_ok-push-2 w ↦
          pair_dropped T D up i n p c.loop-i.lines c.push.new.self c.loop-i.drop line c.loop-i.invariant place at c.in_ok-push.ensures.ok found
          c.if-line.drop (w.drop-is ∙ w.in_ok-push-2.ensures.ok) w.if-line.true
      | else-line w ↦
          subst (λ (l : List ℕ). HasPairLines T D (i + 1) c.push.new.self l) (sym w.drop-is)
          (pair_kept T D up i n p c.loop-i.lines c.push.new.self c.loop-i.drop line c.loop-i.invariant place at c.in_ok-push.ensures.ok found w.if-line.false)
    ]

pub returns : goal.returns
returns c =
    let T = task_data c.args.task.now in
    let all : c.loop-i.i ≡ length T.set = omega (arith, c.loop-i-test.false, c.loop-i.auto.i-end) in
    pair_lines_all T (filtering_data c.args.filters.now) c.loop-i.i c.loop-i.lines c.loop-i.drop c.loop-i.invariant all

pub returns-in_default : goal.returns-in_default
returns-in_default c =
    let t = c.args.task.now in
    let T = task_data t in
    let D = filtering_data c.args.filters.now in
    let i = c.loop-i.i in
    let n = get_or T.set i 0 in
    let p = pair_data (get_or t.pairs.now n c.index-task-number.result) in (
      n,
      p,
      number_at T.set i c.loop-i-test.true,
      pair_at t c.requires.task i c.index-task-number.result c.loop-i-test.true,
      matched_none c.in_ok-line.field-0 (MeetsPair T.symbols T.rules D p → ⊥) (IsPairLine T.symbols T.rules D p) c.in_default.is c.in_ok-line.ensures,
    )
