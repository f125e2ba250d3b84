-- Well-typed terms over the worked system that needs interpretations are bounded: each premise of the theorem on proved systems is met.
use Rattle.std.proofs.Common.{[], ◌∷◌}
use Rattle.wh_terms.specs.Tree.{Tm}
use Rattle.wh_terms.specs.Typing.{WellTyped}
use Rattle.wh_step.specs.Reduction.{Bounded}
use Rattle.wh_proof_nodes.specs.IdentitySystem.{identity_system, identity_pairs, identity_nodes}
use Rattle.wh_proof_nodes.proofs.SystemLaws.{proved_systems_end}
use Rattle.wh_proof_nodes.proofs.IdentityMade.{identity_made}
use Rattle.wh_proof_nodes.proofs.IdentityProof.{identity_passes, identity_pairs_are, identity_proved, both_pairs}

pub identity_terms_end : (t : Tm) → WellTyped identity_system.symbols t → Bounded identity_system.rules t
identity_terms_end =
    proved_systems_end identity_system identity_made (0 ∷ []) identity_passes identity_pairs identity_pairs_are (0 ∷ 1 ∷ []) identity_nodes
    identity_proved both_pairs
