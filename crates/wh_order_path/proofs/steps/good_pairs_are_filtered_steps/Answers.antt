-- By the line, and the values of filtered sides.
use Rattle.wh_order_path.proofs.PairValues.{pair_values_step}
use Rattle.wh_order_path.proofs.steps.good_pairs_are_filtered_steps.Goals as goal

pub returns : goal.returns
returns c S F Φ prec rules M f g cs ds ls rs ts us i b o m n sides good bodies v w =
    pair_values_step S F Φ prec rules M f g cs ds ls rs ts us i b o m n sides good bodies v w
