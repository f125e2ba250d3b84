use Rattle.wh_order_text.proofs.InferenceWhole.{one_inference}
use Rattle.wh_order_text.proofs.laws.one_inference.Goals as goal

pub returns : goal.returns
returns c = one_inference
