-- The list of the node is closed for its set, and the system meets each premise of the law on proved systems.
use Rattle.wh_proof_nodes.proofs.IdentityListed.{listed_proved, listed_terms_end}
use Rattle.wh_proof_nodes.proofs.example.terms_over_identity_are_bounded_by_usable_rules.Goals as goal

pub returns : goal.returns
returns c = record { proved = listed_proved; bounded = listed_terms_end }
