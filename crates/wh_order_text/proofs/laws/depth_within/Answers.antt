use Rattle.wh_order_text.proofs.InferenceWhole.{depth_within}
use Rattle.wh_order_text.proofs.laws.depth_within.Goals as goal

pub returns : goal.returns
returns c = depth_within
