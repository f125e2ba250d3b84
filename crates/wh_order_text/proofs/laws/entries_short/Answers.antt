use Rattle.wh_order_text.proofs.InferenceWhole.{entries_short}
use Rattle.wh_order_text.proofs.laws.entries_short.Goals as goal

pub returns : goal.returns
returns c = entries_short
