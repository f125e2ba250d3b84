use Rattle.std.proofs.Common.{◌<◌, ℕ, All, List, length, sym, subst, arith}
use Rattle.wh_pairs.specs.PairData.{IsIncreasing}
use Rattle.wh_graph.specs.Classes.{AreClasses, AreGathered}
use Rattle.wh_graph.specs.Components.{AreComponents}
use Rattle.wh_graph.specs.Graphs.{AreLists, AreWithin, AtPlaces, Edge, Turned, edge_of, size_of}
use Rattle.wh_graph.specs.Walks.{IsLeavingOrder}
use Rattle.wh_graph.proofs.ComponentLemmas.{components_from, blocks_increase, if_ok_map, leaders_placed}
use Rattle.wh_graph.proofs.GraphLemmas.{few_members, leaving_turned, placed_within}
use Rattle.wh_graph.proofs.edges.Graph.components.Goals as goal

pub at_places-requires-clause-few : goal.at_places-requires-clause-few
at_places-requires-clause-few c =
    let g = c.args.self.now in
    let members = c.as_slice-members.result.now in
    let numbers = c.as_slice-members.ensures.numbers in
    let up = subst IsIncreasing (sym numbers) c.as_slice-members.ensures.increasing in
    let below = subst (All (λ n. n < size_of g)) (sym numbers) c.requires.set in
    omega (arith, few_members members (size_of g) up below, c.requires.graph.few)

pub leaving_order-requires : goal.leaving_order-requires
leaving_order-requires c =
    let g = c.args.self.now in
    let members = c.as_slice-members.result.now in
    let followers = c.in_ok-followers.followers.items in
    let are = subst (λ (rows : List (List ℕ)). AreLists (AtPlaces (Edge rows) members) (length members) followers) c.deref.ensures.value c.in_ok-followers.ensures in
    subst AreWithin (sym c.deref-2.ensures.value) (placed_within (edge_of g) members followers are)

pub at_places-requires-2-clause-few : goal.at_places-requires-2-clause-few
at_places-requires-2-clause-few c =
    let g = c.args.self.now in
    let members = c.as_slice-members.result.now in
    let numbers = c.as_slice-members.ensures.numbers in
    let up = subst IsIncreasing (sym numbers) c.as_slice-members.ensures.increasing in
    let below = subst (All (λ n. n < size_of g)) (sym numbers) c.requires.set in
    omega (arith, few_members members (size_of g) up below, c.requires.graph.few)

pub classes_of-requires-clause-within : goal.classes_of-requires-clause-within
classes_of-requires-clause-within c =
    let g = c.args.self.now in
    let members = c.as_slice-members.result.now in
    let leaders = c.in_ok-leaders.leaders.items in
    let back = subst (λ (rows : List (List ℕ)). AreLists (AtPlaces (Edge rows) members) (length members) leaders) c.deref-3.ensures.value c.in_ok-leaders.ensures in
    subst AreWithin (sym c.deref-4.ensures.value) (placed_within (Edge g.leaders.items) members leaders back)

pub classes_of-requires-clause-order : goal.classes_of-requires-clause-order
classes_of-requires-clause-order c =
    let g = c.args.self.now in
    let members = c.as_slice-members.result.now in
    let followers = c.in_ok-followers.followers.items in
    let leaders = c.in_ok-leaders.leaders.items in
    let order = c.in_ok-order.order.items in
    let are = subst (λ (rows : List (List ℕ)). AreLists (AtPlaces (Edge rows) members) (length members) followers) c.deref.ensures.value c.in_ok-followers.ensures in
    let back = subst (λ (rows : List (List ℕ)). AreLists (AtPlaces (Edge rows) members) (length members) leaders) c.deref-3.ensures.value c.in_ok-leaders.ensures in
    let leaving = subst (λ (rows : List (List ℕ)). IsLeavingOrder (Edge rows) (length rows) order) c.deref-2.ensures.value c.in_ok-order.ensures in
    subst (λ (rows : List (List ℕ)). IsLeavingOrder (Turned (Edge rows)) (length rows) order) (sym c.deref-4.ensures.value)
    (leaving_turned g members followers leaders order c.requires.graph are back leaving)

pub returns-clause-components : goal.returns-clause-components
returns-clause-components c =
    let g = c.args.self.now in
    let set = c.args.set.now in
    let members = c.as_slice-members.result.now in
    let leaders = c.in_ok-leaders.leaders.items in
    let of = c.in_ok-classes.classes.of.items in
    let count = c.in_ok-classes.classes.count in
    let F = Turned (Edge leaders) in
    let up = subst IsIncreasing (sym c.as_slice-members.ensures.numbers) c.as_slice-members.ensures.increasing in
    let back = subst (λ (rows : List (List ℕ)). AreLists (AtPlaces (Edge rows) members) (length members) leaders) c.deref-3.ensures.value c.in_ok-leaders.ensures in
    let classes = subst (λ (n : ℕ). AreClasses F n count of) back.size (subst (λ (rows : List (List ℕ)). AreClasses (Turned (Edge rows)) (length rows) count of) c.deref-4.ensures.value c.in_ok-classes.ensures) in
    if_ok_map (AreGathered members of count (length members)) (AreComponents (edge_of g) set)
    (λ blocks gathered. subst (λ (s : List ℕ). AreComponents (edge_of g) s blocks) c.as_slice-members.ensures.numbers
    (components_from (edge_of g) members F count of blocks up (leaders_placed g members leaders c.requires.graph back) classes gathered))
    c.gather.result c.gather.ensures

pub returns-clause-increasing : goal.returns-clause-increasing
returns-clause-increasing c =
    let members = c.as_slice-members.result.now in
    let of = c.in_ok-classes.classes.of.items in
    let count = c.in_ok-classes.classes.count in
    if_ok_map (AreGathered members of count (length members)) (All IsIncreasing) (λ blocks gathered. blocks_increase members of count blocks gathered) c.gather.result c.gather.ensures
