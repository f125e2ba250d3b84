use Rattle.std.proofs.Common.{◌≡◌, List, length, inl, ap, arith}
use Rattle.std.proofs.lemmas.List.{length-map}
use Rattle.wh_terms.specs.Erase.{rewrite_rule}
use Rattle.wh_terms.specs.Rules.{RewriteRule}
use Rattle.wh_reduction_pairs.specs.TaskView.{task_data}
use Rattle.wh_usable.proofs.Whole.{all_numbers, fewer_numbers}
use Rattle.wh_usable.proofs.closed.check_closed.Goals as goal

pub returns-then-task-rules-clause-closed : goal.returns-then-task-rules-clause-closed
returns-then-task-rules-clause-closed c =
    let T = task_data c.args.task.now in
    let count = ap (λ (l : List RewriteRule). length l) c.rules.ensures in
    let whole : length T.covered ≡ length T.rules = omega (arith, c.if-task-rules.true, count, length-map c.rules.result.now rewrite_rule) in
    inl (all_numbers T.covered (length T.rules) c.requires.increasing c.requires.task.are_rules whole)

pub returns-in-Some-clause-first : goal.returns-in-Some-clause-first
returns-in-Some-clause-first c =
    let T = task_data c.args.task.now in
    let count = ap (λ (l : List RewriteRule). length l) c.rules.ensures in (
      fewer_numbers T.covered (length T.rules) (λ same. c.if-task-rules.false (omega (arith, same, count, length-map c.rules.result.now rewrite_rule))),
      c.in-Some.ensures,
    )

pub returns-in-Some-first_open_pair-clause-first : goal.returns-in-Some-first_open_pair-clause-first
returns-in-Some-first_open_pair-clause-first c =
    let T = task_data c.args.task.now in
    let count = ap (λ (l : List RewriteRule). length l) c.rules.ensures in (
      fewer_numbers T.covered (length T.rules) (λ same. c.if-task-rules.false (omega (arith, same, count, length-map c.rules.result.now rewrite_rule))),
      c.in_default.ensures,
      c.in-Some-first_open_pair.ensures,
    )
