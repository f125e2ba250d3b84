use Rattle.wh_order_check.proofs.NarrowAnswers.{ok_narrow, no_memory, not_narrow}
use Rattle.wh_order_check.proofs.narrow.is_narrow_side.Goals.{in-Ok, in-Err-NoMemory, in-Err-Because}
use Rattle.wh_order_check.proofs.narrow.is_narrow_side.Goals as goal

pub returns : goal.returns
returns c r at = elim c.match-filtered_rule.branch [
  | in-Ok w ↦ ok_narrow c.match-filtered_rule.result _ _ _ c.filtered_rule.result w.in-Ok.field-0 w.in-Ok.is w.result-is (c.filtered_rule.ensures r at)
  | in-Err-NoMemory w ↦ no_memory c.match-filtered_rule.result _ w.result-is
  | in-Err-Because w ↦ not_narrow c.match-filtered_rule.result _ _ _ c.filtered_rule.result w.in-Err-Because.field-0 w.in-Err-Because.field-0-0 w.in-Err-Because.is w.in-Err-Because.field-0-is w.result-is (c.filtered_rule.ensures r at)
]
