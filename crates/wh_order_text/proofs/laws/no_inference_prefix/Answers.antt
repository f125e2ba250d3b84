use Rattle.wh_order_text.proofs.InferenceWhole.{no_prefix}
use Rattle.wh_order_text.proofs.laws.no_inference_prefix.Goals as goal

pub returns : goal.returns
returns c = no_prefix
