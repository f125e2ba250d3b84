-- Along the way to each meta-variable that is read.
use Rattle.wh_proof_calls.proofs.ReadBodies.{arguments_give_bodies}
use Rattle.wh_proof_calls.proofs.reading.arguments_give_computable_bodies.Goals as goal

pub returns : goal.returns
returns c d ranks r g f ts b cs z q made passing listed v typed computable occurs declared =
    arguments_give_bodies d ranks r g f ts b cs z q made passing listed v typed computable occurs declared
