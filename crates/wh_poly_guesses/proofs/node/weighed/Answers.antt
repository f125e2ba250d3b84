use Rattle.std.proofs.Common.{ℕ, ◌+◌, ◌≤◌, List, length, map, ap, sym, subst, ◌∙◌, arith}
use Rattle.std.proofs.lemmas.Option.{slice_get_within}
use Rattle.wh_reduction_pairs.specs.TaskView.{task_data}
use Rattle.wh_hopoly.specs.Erase.{transfers}
use Rattle.wh_hopoly.specs.declared.expression.Move.{Move}
use Rattle.wh_polycheck.specs.ReadingsView.{readings_data}
use Rattle.wh_poly_guesses.specs.Conditions.{Fails}
use Rattle.wh_poly_guesses.specs.Lines.{AreRuleLines, IsFailingPair, IsFailingRule}
use Rattle.wh_poly_guesses.proofs.NodeLemmas.{rule_fails, pair_fails, set_fails}
use Rattle.wh_poly_guesses.proofs.EmptyLemmas.{empty_list}
use Rattle.wh_poly_guesses.proofs.ToldLemmas.{matched_because}
use Rattle.wh_poly_guesses.proofs.node.weighed.Goals as goal

pub returns-in-Err-Because : goal.returns-in-Err-Because
returns-in-Err-Because c =
    let T = task_data c.args.task.now in
    let R = readings_data c.args.readings.now in
    let e = c.in-Err-Because in
    subst (λ (k : ℕ). Fails T R k) (sym e.place-is)
    (rule_fails T R e.place
    (matched_because e.field-0 e.place (λ (lines : List (List Move)). AreRuleLines T R (map transfers lines)) (IsFailingRule T R) e.field-0-is e.ensures))

pub number_of_pair-requires : goal.number_of_pair-requires
number_of_pair-requires c =
    let T = task_data c.args.task.now in
    let e = c.in-Err-Because-pair_lines in
    let (n, p, place, at, never) = matched_because e.field-0 e.place _ (IsFailingPair T (readings_data c.args.readings.now)) e.field-0-is e.ensures in
    let within = slice_get_within T.set e.place n place in
    let below : e.place ≤ length T.set = omega (arith, within) in
    subst (λ (k : ℕ). k ≤ length T.set) (sym e.place-is) below

pub returns-in-Err-Because-pair_lines : goal.returns-in-Err-Because-pair_lines
returns-in-Err-Because-pair_lines c =
    let T = task_data c.args.task.now in
    let R = readings_data c.args.readings.now in
    let e = c.in-Err-Because-pair_lines in
    pair_fails T R e.place c.number_of_pair.result (matched_because e.field-0 e.place _ (IsFailingPair T R) e.field-0-is e.ensures)
    (c.number_of_pair.ensures ∙ ap (λ (k : ℕ). length T.covered + k) e.place-is)

pub returns-then-is_empty : goal.returns-then-is_empty
returns-then-is_empty c =
    let found = c.in-Ok-pair_lines.found in
    let none = empty_list c.as_slice.result.now found.drop c.is_empty.result c.as_slice.ensures c.is_empty.ensures c.if-is_empty.true in
    set_fails (task_data c.args.task.now) (readings_data c.args.readings.now) (map transfers found.lines) found.drop c.number_of_pair-then-is_empty.result
    c.in-Ok-pair_lines.ensures none c.number_of_pair-then-is_empty.ensures
