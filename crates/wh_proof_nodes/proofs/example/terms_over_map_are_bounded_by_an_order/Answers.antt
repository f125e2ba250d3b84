-- The node's conditions hold by computing, and the system meets each premise of the law on proved systems.
use Rattle.wh_proof_nodes.proofs.MapLaws.{map_ordered, map_terms_end_by_order}
use Rattle.wh_proof_nodes.proofs.example.terms_over_map_are_bounded_by_an_order.Goals as goal

pub returns : goal.returns
returns c = record { proved = map_ordered; bounded = map_terms_end_by_order }
