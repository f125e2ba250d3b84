-- The system meets each premise of the law on proved systems.
use Rattle.wh_proof_nodes.proofs.IdentityLaws.{identity_terms_end}
use Rattle.wh_proof_nodes.proofs.example.terms_over_identity_are_bounded.Goals as goal

pub returns : goal.returns
returns c = identity_terms_end
