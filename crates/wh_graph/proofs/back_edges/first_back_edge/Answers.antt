use Rattle.std.proofs.Common.{ℕ, Option, map, take, length, get_or, subst, arith}
use Rattle.wh_pairs.specs.PairData.{pair_data}
use Rattle.wh_system.specs.SystemView.{system_data}
use Rattle.wh_graph.specs.Blocks.{IsListed, IsBackEdge}
use Rattle.wh_graph.specs.Least.{LeastOf}
use Rattle.wh_graph.specs.May.{Follows}
use Rattle.wh_pairs.proofs.ByPlace.{number_at, contains_number, place_of, before_more, before_all}
use Rattle.wh_pairs.proofs.Increasing.{smaller_earlier}
use Rattle.wh_graph.proofs.EdgeLemmas.{IsPlaceOf, edge_from, edge_to, edge_source, listed_below}
use Rattle.wh_graph.proofs.back_edges.first_back_edge.Goals as goal

pub least_follower-requires-clause-listed : goal.least_follower-requires-clause-listed
least_follower-requires-clause-listed c =
    λ n listed. listed_below c.args.set.now c.args.blocks.now c.block_of-place.result (length c.args.pairs.now) n c.requires.partition c.requires.set listed

pub returns-in-Some : goal.returns-in-Some
returns-in-Some c =
    let E : ℕ → ℕ → Type 0 = Follows (system_data c.args.system.now).rules (map pair_data c.args.pairs.now) in
    let set = c.args.set.now in
    let blocks = c.args.blocks.now in
    let i = c.loop-number.number-index in
    let a = get_or set i 0 in
    let place = c.block_of-place.result in
    let p = c.requires.partition in
    let is : IsPlaceOf blocks a place = record { within = c.block_of-place.ensures.within; found = c.block_of-place.ensures.found; first = c.block_of-place.ensures.first } in
    let least = subst (λ (o : Option ℕ). LeastOf (λ b. IsListed (take place blocks) b × E a b) o) c.in-Some.is c.least_follower.ensures in (
      edge_from E set blocks a place c.in-Some.b p is (contains_number set i c.loop-number-test.true) least.0,
      λ k d less edge.
          let there = place_of set k (edge_source E set blocks k d p edge) in
          c.loop-number.invariant there.0 k (smaller_earlier set there.0 i k a c.requires.increasing there.1 (number_at set i c.loop-number-test.true) less) there.1 d edge,
      λ d less edge. let le = least.1 d (edge_to E set blocks a place d p is edge) in omega arith,
    )

pub loop-number-preserved : goal.loop-number-preserved
loop-number-preserved c =
    let E : ℕ → ℕ → Type 0 = Follows (system_data c.args.system.now).rules (map pair_data c.args.pairs.now) in
    let set = c.args.set.now in
    let blocks = c.args.blocks.now in
    let i = c.loop-number.number-index in
    let a = get_or set i 0 in
    let place = c.block_of-place.result in
    let p = c.requires.partition in
    let is : IsPlaceOf blocks a place = record { within = c.block_of-place.ensures.within; found = c.block_of-place.ensures.found; first = c.block_of-place.ensures.first } in
    let least = subst (λ (o : Option ℕ). LeastOf (λ b. IsListed (take place blocks) b × E a b) o) c.in_default.is c.least_follower.ensures in
    before_more (λ k. (b : ℕ) → IsBackEdge E blocks k b → ⊥) set i a c.loop-number.invariant (number_at set i c.loop-number-test.true)
    (λ b edge. least b (edge_to E set blocks a place b p is edge))

pub returns : goal.returns
returns c =
    let E : ℕ → ℕ → Type 0 = Follows (system_data c.args.system.now).rules (map pair_data c.args.pairs.now) in
    let set = c.args.set.now in
    let blocks = c.args.blocks.now in
    λ a b edge. before_all (λ k. (d : ℕ) → IsBackEdge E blocks k d → ⊥) set c.loop-number.number-index a c.loop-number.invariant c.loop-number-test.false
    (edge_source E set blocks a b c.requires.partition edge) b edge
