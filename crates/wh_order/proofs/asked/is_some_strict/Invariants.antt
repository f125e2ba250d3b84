use Rattle.std.proofs.Common.{◌≡◌, drop}
use Rattle.wh_order_inference.specs.Said.{inferences}
use Rattle.wh_order_path.specs.Verdict.{some_strict}
use Rattle.wh_order.proofs.asked.is_some_strict.Given as goal

abbrev pub invariant-loop-part : goal.invariant-loop-part
invariant-loop-part l = some_strict (inferences l.parts) ≡ some_strict (inferences (drop l.part-index l.parts))
