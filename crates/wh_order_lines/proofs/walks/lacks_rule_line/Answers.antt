use Rattle.std.proofs.Common.{◌≡◌, get_or, subst}
use Rattle.std.specs.Prelude.{slice_get, Some}
use Rattle.wh_terms.specs.Rules.{RewriteRule}
use Rattle.wh_pairs.proofs.ByPlace.{number_at, some_one}
use Rattle.wh_reduction_pairs.specs.TaskView.{task_data}
use Rattle.wh_order_inference.specs.Said.{inference}
use Rattle.wh_order_node.specs.FilteringView.{filtering_data}
use Rattle.wh_poly_covering.proofs.Walks.{some_at}
use Rattle.wh_order_lines.proofs.Matched.{told_missing}
use Rattle.wh_order_lines.specs.Oriented.{MeetsRule}
use Rattle.wh_order_lines.specs.OrderLines.{IsRuleLine}
use Rattle.wh_order_lines.proofs.walks.lacks_rule_line.Goals as goal

pub rule_line-requires-clause-rule : goal.rule_line-requires-clause-rule
rule_line-requires-clause-rule c = c.requires.task.are_rules c.args.place 0 c.requires.place

pub returns : goal.returns
returns c =
    let T = task_data c.args.task.now in
    let D = filtering_data c.args.filters.now in
    let i = c.args.place in
    let n = get_or T.covered i 0 in
    let here = number_at T.covered i c.requires.place in
    let (r, at) = some_at T.rules n (c.requires.task.are_rules i 0 c.requires.place) in
    let told = told_missing c.in_ok-line.line (MeetsRule T.symbols T.rules D r → ⊥) (λ line. IsRuleLine T.symbols T.rules D r (inference line)) c.is_none.result
    c.is_none.ensures (c.in_ok-line.ensures r at) (λ line is never. never (is.narrow, (inference line, is.good, is.within))) in (
      λ missing. (n, r, here, at, told.0 missing),
      λ (m, q, place, there, never).
          let same : m ≡ n = some_one place here in
          let one : r ≡ q = some_one at (subst (λ k. slice_get T.rules k ≡ Some q) same there) in
          told.1 (λ meets. never (subst (λ (p : RewriteRule). MeetsRule T.symbols T.rules D p) one meets)),
    )
