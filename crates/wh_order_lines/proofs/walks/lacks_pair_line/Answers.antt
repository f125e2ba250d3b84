use Rattle.std.proofs.Common.{◌≡◌, get_or, subst}
use Rattle.std.specs.Prelude.{slice_get, Some}
use Rattle.wh_pairs.specs.PairData.{PairData, pair_data}
use Rattle.wh_pairs.proofs.ByPlace.{number_at, contains_at, some_one}
use Rattle.wh_reduction_pairs.specs.TaskView.{task_data}
use Rattle.wh_reduction_pairs.proofs.TaskLemmas.{pair_at}
use Rattle.wh_order_inference.specs.Said.{inference}
use Rattle.wh_order_node.specs.FilteringView.{filtering_data}
use Rattle.wh_order_lines.proofs.Matched.{told_missing}
use Rattle.wh_order_lines.specs.Oriented.{MeetsPair}
use Rattle.wh_order_lines.specs.OrderLines.{IsAnyPairLine}
use Rattle.wh_order_lines.proofs.walks.lacks_pair_line.Goals as goal

pub any_pair_line-requires-clause-typed : goal.any_pair_line-requires-clause-typed
any_pair_line-requires-clause-typed c =
    let t = c.args.task.now in
    let T = task_data t in
    let i = c.args.place in
    c.requires.typed _ (contains_at T.pairs (get_or T.set i 0) _ (pair_at t c.requires.task i c.index-task-number.result c.requires.place))

pub returns : goal.returns
returns c =
    let t = c.args.task.now in
    let T = task_data t in
    let D = filtering_data c.args.filters.now in
    let i = c.args.place in
    let n = get_or T.set i 0 in
    let p = pair_data (get_or t.pairs.now n c.index-task-number.result) in
    let here = number_at T.set i c.requires.place in
    let at = pair_at t c.requires.task i c.index-task-number.result c.requires.place in
    let told = told_missing c.in_ok-line.line (MeetsPair T.symbols T.rules D p → ⊥) (λ line. IsAnyPairLine T.symbols T.rules D p (inference line)) c.is_none.result
    c.is_none.ensures c.in_ok-line.ensures (λ line is never. never (is.narrow, (inference line, is.good, is.within))) in (
      λ missing. (n, p, here, at, told.0 missing),
      λ (m, q, place, there, never).
          let same : m ≡ n = some_one place here in
          let one : p ≡ q = some_one at (subst (λ k. slice_get T.pairs k ≡ Some q) same there) in
          told.1 (λ meets. never (subst (λ (r : PairData). MeetsPair T.symbols T.rules D r) one meets)),
    )
