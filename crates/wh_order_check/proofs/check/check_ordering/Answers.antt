use Rattle.std.proofs.Common.{ℕ, ◌↔◌, List, Contains, sym, subst}
use Rattle.wh_reduction_pairs.specs.TaskView.{task_data}
use Rattle.wh_reduction_pairs.proofs.Lines.{right_pair_same}
use Rattle.wh_order_node.specs.FilteringView.{filtering_data}
use Rattle.wh_poly_covering.proofs.CoverWalk.{ok_so, cause_so}
use Rattle.wh_order_check.specs.InferenceView.{inferred_data}
use Rattle.wh_order_check.specs.OrderingFaults.{strict_lines, weak_lines}
use Rattle.wh_order_check.proofs.OrderingWalk.{ordering_holds, weak_first, weak_same}
use Rattle.wh_order_check.proofs.TypedCalls.{typed_calls}
use Rattle.wh_order_check.proofs.check.check_ordering.Goals as goal

pub check_narrow-requires-clause-typed : goal.check_narrow-requires-clause-typed
check_narrow-requires-clause-typed c =
    let T = task_data c.args.task.now in typed_calls T.symbols T.rules T.pairs c.requires.task.typed

pub check_good-requires-clause-typed : goal.check_good-requires-clause-typed
check_good-requires-clause-typed c =
    let T = task_data c.args.task.now in typed_calls T.symbols T.rules T.pairs c.requires.task.typed

pub returns-clause-ordering : goal.returns-clause-ordering
returns-clause-ordering c =
    let T = task_data c.args.task.now in
    let D = filtering_data c.args.filters.now in
    let E = inferred_data c.args.inferred.now in
    let same = subst (λ (l : List ℕ). (n : ℕ) → Contains l n ↔ Contains E.drop n) (sym c.as_slice.ensures.value) c.in_ok-dropped.ensures.same in
    ok_so c.check_pairs_strict.result _ _
    (λ strict. ordering_holds T D E c.requires.filters c.in_ok-check_prepared.ensures c.in_ok-check_narrow.ensures.rules
    c.in_ok-check_narrow.ensures.pairs c.in_ok-check_good.ensures.rules c.in_ok-check_good.ensures.pairs
    (λ k. right_pair_same strict_lines weak_lines T E.of_pairs c.as_slice.result.now E.drop same k (strict k)))
    c.check_pairs_strict.ensures.ok

pub returns-clause-fault : goal.returns-clause-fault
returns-clause-fault c =
    let T = task_data c.args.task.now in
    let D = filtering_data c.args.filters.now in
    let E = inferred_data c.args.inferred.now in
    let same = subst (λ (l : List ℕ). (n : ℕ) → Contains l n ↔ Contains E.drop n) (sym c.as_slice.ensures.value) c.in_ok-dropped.ensures.same in
    cause_so c.check_pairs_strict.result _ _
    (λ f h. weak_first T D E c.in_ok-check_prepared.ensures c.in_ok-check_narrow.ensures.rules c.in_ok-check_narrow.ensures.pairs
    c.in_ok-check_good.ensures.rules c.in_ok-check_good.ensures.pairs f (weak_same T E.of_pairs c.as_slice.result.now E.drop same f h))
    c.check_pairs_strict.ensures.fault
