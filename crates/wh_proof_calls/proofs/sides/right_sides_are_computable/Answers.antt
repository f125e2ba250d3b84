-- By induction on the right side.
use Rattle.wh_proof_calls.proofs.RightSides.{right_side_computable}
use Rattle.wh_proof_calls.proofs.sides.right_sides_are_computable.Goals as goal

pub returns : goal.returns
returns c d rank r g a v made listed typed bodies computable value = right_side_computable d rank r g a v made listed typed bodies computable value
