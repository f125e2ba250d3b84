use Rattle.std.proofs.lemmas.Result.{IfOk-weaker}
use Rattle.wh_order_path.specs.Verdict.{at_least}
use Rattle.wh_order_infer.proofs.line.find_inference.Goals as goal

pub returns : goal.returns
returns c = IfOk-weaker c.find.result _ _ (λ r h. h at_least c.args.left.now c.args.right.now c.weak_goal.ensures) c.find.ensures
