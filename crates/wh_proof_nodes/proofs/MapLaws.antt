-- Well-typed terms over the worked system are bounded: each premise of the theorem on proved systems is met.
use Rattle.std.proofs.Common.{[], ◌∷◌}
use Rattle.wh_terms.specs.Tree.{Tm}
use Rattle.wh_terms.specs.Typing.{WellTyped}
use Rattle.wh_step.specs.Reduction.{Bounded}
use Rattle.wh_proof.specs.Nodes.{by_done, by_order}
use Rattle.wh_proof.specs.Proves.{Proves, all_proved, one_proved}
use Rattle.wh_proof_nodes.specs.MapSystem.{map_symbols, map_system, map_pair, map_nodes}
use Rattle.wh_proof_nodes.specs.MapOrder.{map_order_nodes}
use Rattle.wh_proof_nodes.proofs.SystemLaws.{proved_systems_end}
use Rattle.wh_proof_nodes.proofs.MapMade.{map_made}
use Rattle.wh_proof_nodes.proofs.MapProof.{map_passes, map_pairs, map_proved, none_kept, whole_set}
use Rattle.wh_proof_nodes.proofs.MapOrdering.{map_ordering}

pub map_terms_end : (t : Tm) → WellTyped map_system.symbols t → Bounded map_system.rules t
map_terms_end =
    proved_systems_end map_system map_made (0 ∷ 0 ∷ []) map_passes (map_pair ∷ []) map_pairs (0 ∷ []) map_nodes map_proved whole_set

-- by the path order too

pub map_ordered : Proves map_symbols map_system.rules (map_pair ∷ []) ((0 ∷ []) ∷ []) map_order_nodes
map_ordered = one_proved (by_order map_ordering none_kept) (one_proved by_done all_proved)

pub map_terms_end_by_order : (t : Tm) → WellTyped map_system.symbols t → Bounded map_system.rules t
map_terms_end_by_order =
    proved_systems_end map_system map_made (0 ∷ 0 ∷ []) map_passes (map_pair ∷ []) map_pairs (0 ∷ []) map_order_nodes map_ordered whole_set
