-- By induction on typing.
use Rattle.wh_order_extended.proofs.SiftTyped.{sift_typed, sift_full}
use Rattle.wh_order_extended.proofs.filtered.filtered_trees_are_typed.Goals as goal

pub returns : goal.returns
returns c S F Φ M Γ t a into p f = (sift_typed S F Φ into p f, sift_full S F Φ into p f)
