use Rattle.std.proofs.lemmas.Result.{IfOk-weaker}
use Rattle.wh_order_path.specs.Verdict.{greater}
use Rattle.wh_order_infer.proofs.line.find_greater.Goals as goal

pub returns : goal.returns
returns c = IfOk-weaker c.find.result _ _ (λ r h. h greater c.args.left.now c.args.right.now c.strict_goal.ensures) c.find.ensures
