use Rattle.wh_top_reducing.proofs.OneText.{one_text}
use Rattle.wh_top_reducing.proofs.laws.one_text_of_reduction.Goals as goal

pub returns : goal.returns
returns c d bytes asked a b well x y = one_text d bytes asked a b well x y
