-- The system meets each premise of the law on proved systems.
use Rattle.wh_proof_nodes.proofs.MapLaws.{map_terms_end}
use Rattle.wh_proof_nodes.proofs.example.terms_over_map_are_bounded.Goals as goal

pub returns : goal.returns
returns c = map_terms_end
