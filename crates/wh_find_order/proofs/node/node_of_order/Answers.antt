use Rattle.std.proofs.Common.{ℕ, ◌+◌, ◌≤◌, List, length, map, ap, sym, subst, ◌∙◌, arith}
use Rattle.std.proofs.lemmas.Option.{slice_get_within}
use Rattle.wh_reduction_pairs.specs.TaskView.{task_data}
use Rattle.wh_order_inference.specs.Said.{inference}
use Rattle.wh_order_inference.specs.declared.inference.Inference.{Inference}
use Rattle.wh_order_node.specs.FilteringView.{filtering_data}
use Rattle.wh_order_lines.specs.OrderWalks.{AreRuleLines, IsFailingPair, IsFailingRule}
use Rattle.wh_poly_guesses.proofs.EmptyLemmas.{empty_list}
use Rattle.wh_poly_guesses.proofs.ToldLemmas.{matched_because}
use Rattle.wh_find_order.specs.Trials.{Fails}
use Rattle.wh_find_order.proofs.NodeLemmas.{rule_fails, pair_fails, set_fails}
use Rattle.wh_find_order.proofs.SearchLemmas.{typed_calls}
use Rattle.wh_find_order.proofs.node.node_of_order.Goals as goal

pub pair_lines-requires-clause-typed : goal.pair_lines-requires-clause-typed
pair_lines-requires-clause-typed c =
    let T = task_data c.args.task.now in typed_calls T.symbols T.rules T.pairs c.requires.task.typed.typed

pub returns-in-Err-Because-rule_lines : goal.returns-in-Err-Because-rule_lines
returns-in-Err-Because-rule_lines c =
    let T = task_data c.args.task.now in
    let D = filtering_data c.args.filters.now in
    let e = c.in-Err-Because-rule_lines in
    subst (λ (k : ℕ). Fails T D k) (sym e.place-is)
    (rule_fails T D e.place
    (matched_because e.field-0 e.place (λ (lines : List Inference). AreRuleLines T D (map inference lines)) (IsFailingRule T D) e.field-0-is e.ensures))

pub number_of_pair-requires : goal.number_of_pair-requires
number_of_pair-requires c =
    let T = task_data c.args.task.now in
    let e = c.in-Err-Because in
    let (n, p, place, at, never) = matched_because e.field-0 e.place _ (IsFailingPair T (filtering_data c.args.filters.now)) e.field-0-is e.ensures in
    let within = slice_get_within T.set e.place n place in
    let below : e.place ≤ length T.set = omega (arith, within) in
    subst (λ (k : ℕ). k ≤ length T.set) (sym e.place-is) below

pub returns-in-Err-Because : goal.returns-in-Err-Because
returns-in-Err-Because c =
    let T = task_data c.args.task.now in
    let D = filtering_data c.args.filters.now in
    let e = c.in-Err-Because in
    pair_fails T D e.place c.number_of_pair.result (matched_because e.field-0 e.place _ (IsFailingPair T D) e.field-0-is e.ensures)
    (c.number_of_pair.ensures ∙ ap (λ (k : ℕ). length T.covered + k) e.place-is)

pub returns-then-is_empty : goal.returns-then-is_empty
returns-then-is_empty c =
    let found = c.in-Ok.found in
    let none = empty_list c.as_slice.result.now found.drop c.is_empty.result c.as_slice.ensures c.is_empty.ensures c.if-is_empty.true in
    set_fails (task_data c.args.task.now) (filtering_data c.args.filters.now) (map inference found.lines) found.drop c.number_of_pair-then-is_empty.result
    c.in-Ok.ensures none c.number_of_pair-then-is_empty.ensures
