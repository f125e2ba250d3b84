-- The sets that the search comes to: of which numbers they are, and what the graph settles nothing of.
use Rattle.std.proofs.Common.{◌≡◌, ◌≢◌, ℕ, ◌<◌, ◌≤◌, List, [], ◌∷◌, length, Contains, All, arith}
use Rattle.std.proofs.lemmas.Option.{slice_get_within}
use Rattle.std.proofs.lemmas.List.Elements.{All-head, All-tail, All-contains}
use Rattle.wh_terms.specs.Rules.{RewriteRule}
use Rattle.wh_system.specs.Systems.{SystemData}
use Rattle.wh_pairs.specs.PairData.{PairData, IsIncreasing}
use Rattle.wh_pairs.proofs.ByPlace.{place_of}
use Rattle.wh_graph.specs.May.{Follows}
use Rattle.wh_graph.specs.Blocks.{AreBlocks}
use Rattle.wh_graph.specs.Components.{IsIn, AreComponents}
use Rattle.wh_proof.specs.Nodes.{AreSetsOf, no_sets, more_sets}
use Rattle.wh_pairs.proofs.SetLemmas.{all_from_members}
use Rattle.wh_prover.specs.Arriving.{IsOneComponent, IsAlone, Arrives, at_all, at_component, behind_projection, behind_interpretation, behind_order, Ended}
use Rattle.wh_prover.proofs.SetLemmas.{set_itself}

-- each number is that of a pair
pub arrives_below : (d : SystemData) (ps : List PairData) (set : List ℕ) → Arrives d ps set → (n : ℕ) → Contains set n → n < length ps
arrives_below d ps set (at_all whole) n found = (whole.each n).0 found
arrives_below d ps set (at_component {set = from} {part = part} {parts = parts} arrives are enough has is) n found =
    let at = place_of parts part has in
    let stands = place_of part n ((is.each n).0 found) in
    arrives_below d ps from arrives n (are.partition.within at.0 n (stands.0, (part, at.1, stands.1)))
arrives_below d ps set (behind_projection {set = from} arrives knot is all rest) n found =
    arrives_below d ps from arrives n ((rest.each n).0 found).0
arrives_below d ps set (behind_interpretation {set = from} arrives knot none closed is rest) n found =
    arrives_below d ps from arrives n ((rest.each n).0 found).0
arrives_below d ps set (behind_order {set = from} arrives knot none none_either is rest) n found =
    arrives_below d ps from arrives n ((rest.each n).0 found).0

pub arrives_within : (d : SystemData) (ps : List PairData) (set : List ℕ) → Arrives d ps set → All (λ n. n < length ps) set
arrives_within d ps set arrives = all_from_members (λ n. n < length ps) set (arrives_below d ps set arrives)

-- increasing blocks are their own sets
pub sets_themselves : (parts : List (List ℕ)) → All IsIncreasing parts → AreSetsOf parts parts
sets_themselves [] up = no_sets
sets_themselves (part ∷ parts) up =
    more_sets (set_itself part (All-head IsIncreasing part parts up)) (sets_themselves parts (All-tail IsIncreasing part parts up))

-- the search comes to each component
pub arrives_apart : (d : SystemData) (ps : List PairData) (set : List ℕ) (parts : List (List ℕ)) → Arrives d ps set
    → AreComponents (Follows d.rules ps) set parts → All IsIncreasing parts → 2 ≤ length parts → All (Arrives d ps) parts
arrives_apart d ps set parts arrives are up enough =
    all_from_members (Arrives d ps) parts (λ part found.
    at_component arrives are enough found (set_itself part (All-contains IsIncreasing parts part up found)))

-- components are blocks of a proof, where there are two or more
pub components_are_blocks : (E : ℕ → ℕ → Type 0) (set : List ℕ) (parts : List (List ℕ)) → AreComponents E set parts → 2 ≤ length parts
    → AreBlocks E set parts
components_are_blocks E set parts are enough =
    record { enough = enough; filled = are.filled; partition = are.partition; ordered = are.ordered }

-- where there are fewer than two, the set is one component
pub one_component : (rules : List RewriteRule) (ps : List PairData) (set : List ℕ) (parts : List (List ℕ)) → AreComponents (Follows rules ps) set parts
    → length parts ≤ 1 → IsOneComponent rules ps set
one_component rules ps set parts are few a b has_a has_b =
    let at_a = are.partition.whole a has_a in
    let at_b = are.partition.whole b has_b in
    let below : (i n : ℕ) → IsIn parts i n → i < length parts = λ i n (k, (block, at, stands)). slice_get_within parts i block at in
    let first = below at_a.0 a at_a.1 in
    let second = below at_b.0 b at_b.1 in
    let same : at_a.0 ≡ at_b.0 = omega (arith, first, second, few) in
    ((are.classes at_a.0 at_b.0 a b at_a.1 at_b.1).0 same).0

pub ended : (d : SystemData) (ps : List PairData) (set : List ℕ) (parts : List (List ℕ)) → Arrives d ps set → set ≢ []
    → AreComponents (Follows d.rules ps) set parts → length parts ≤ 1 → (IsAlone d.rules ps set → ⊥) → Ended d ps set
ended d ps set parts arrives some are few not_alone =
    record { arrives = arrives; knot = record { some = some; one = one_component d.rules ps set parts are few; not_alone = not_alone } }
