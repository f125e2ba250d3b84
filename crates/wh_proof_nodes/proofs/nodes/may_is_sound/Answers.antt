-- What clashes has no values of which one leads to the other.
use Rattle.wh_proof_nodes.proofs.MayLaws.{may_sound-step}
use Rattle.wh_proof_nodes.proofs.nodes.may_is_sound.Goals as goal

pub returns : goal.returns
returns c S rules a b g h us vs made heads left right m = may_sound-step S rules made a b g h us vs heads left right m
