-- Where a system is passing and its pairs are proved, each well-typed term is bounded.
use Rattle.std.proofs.Common.{ℕ, ◌<◌, List, [], ◌∷◌, length, Contains}
use Rattle.std.proofs.lemmas.Option.{slice_get_within}
use Rattle.wh_terms.specs.Tree.{Tm}
use Rattle.wh_terms.specs.Typing.{WellTyped}
use Rattle.wh_step.specs.Step.{Step}
use Rattle.wh_step.specs.Reduction.{Bounded}
use Rattle.wh_pairs.specs.PairData.{PairData}
use Rattle.wh_system.specs.Systems.{SystemData}
use Rattle.wh_system.specs.WellMade.{IsWellMadeSystem}
use Rattle.wh_pairs.proofs.ByPlace.{place_of}
use Rattle.wh_access.specs.Passing.{IsPassing}
use Rattle.wh_pairs.specs.Candidates.{candidates}
use Rattle.wh_pairs.specs.Subsumption.{ArePairs}
use Rattle.wh_pairs.proofs.MemberLemmas.{at_head}
use Rattle.wh_proof_calls.specs.MarkedCalls.{CallsEnd}
use Rattle.wh_proof_calls.proofs.EndOfCalls.{calls-bounded}
use Rattle.wh_polycheck.specs.Covering.{HaveTypedSides}
use Rattle.wh_poly_meaning.proofs.PairSides.{pair_sides}
use Rattle.wh_order_descent.proofs.PatternPairs.{known_sorts, pattern_sides}
use Rattle.wh_proof.specs.Nodes.{Node}
use Rattle.wh_proof.specs.Proves.{Proves}
use Rattle.wh_pairs.specs.Sets.{InSet}
use Rattle.wh_proof_nodes.proofs.CallLaws.{calls_fewer}
use Rattle.wh_proof_nodes.proofs.NodeLaws.{proofs_keep}

-- a pair of the list is in the set of all numbers
in_all : (ps : List PairData) (all : List ℕ) → ((n : ℕ) → n < length ps → Contains all n) → (p : PairData) → Contains ps p → InSet ps all p
in_all ps all whole p found = let (n, at) = place_of ps p found in (n, whole n (slice_get_within ps n p at), at)

-- calls end by all pairs of a list that is proved
all_calls_end : (d : SystemData) → IsWellMadeSystem d → (ps : List PairData) → ArePairs (candidates d.symbols d.rules) ps
    → (all : List ℕ) (nodes : List Node) → Proves d.symbols d.rules ps (all ∷ []) nodes
    → ((n : ℕ) → n < length ps → Contains all n) → CallsEnd d.symbols d.rules (Step d.rules) (Contains ps)
all_calls_end d made ps pairs all nodes proves whole =
    let typed : HaveTypedSides d.symbols d.rules ps = λ marks p found. pair_sides d made ps pairs marks p found in
    calls_fewer (in_all ps all whole) (proofs_keep d.symbols d.rules ps made.rules (known_sorts d made) typed
    (pattern_sides d made ps pairs) proves all (at_head [] all))

-- and so terms are bounded
pub proved_systems_end : (d : SystemData) → IsWellMadeSystem d → (ranks : List ℕ) → IsPassing d ranks → (ps : List PairData)
    → ArePairs (candidates d.symbols d.rules) ps
    → (all : List ℕ) (nodes : List Node) → Proves d.symbols d.rules ps (all ∷ []) nodes → ((n : ℕ) → n < length ps → Contains all n)
    → (t : Tm) → WellTyped d.symbols t → Bounded d.rules t
proved_systems_end d made ranks passing ps pairs all nodes proves whole t (a, typed) =
    calls-bounded d made ranks passing ps pairs (all_calls_end d made ps pairs all nodes proves whole) t a typed
