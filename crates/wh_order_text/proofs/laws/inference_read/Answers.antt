use Rattle.wh_order_text.proofs.InferenceWhole.{reads}
use Rattle.wh_order_text.proofs.laws.inference_read.Goals as goal

pub returns : goal.returns
returns c = reads
