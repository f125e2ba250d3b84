use Rattle.std.proofs.Common.{◌<◌, ℕ, All, map, sym, subst, ◌∙◌}
use Rattle.std.proofs.lemmas.List.{length-map}
use Rattle.wh_pairs.specs.PairData.{pair_data}
use Rattle.wh_system.specs.SystemView.{system_data}
use Rattle.wh_graph.specs.Components.{AreComponents}
use Rattle.wh_graph.specs.Graphs.{edge_of}
use Rattle.wh_graph.specs.May.{Follows}
use Rattle.wh_graph.proofs.ComponentLemmas.{if_ok_map}
use Rattle.wh_graph.proofs.GraphLemmas.{components_of_pairs}
use Rattle.wh_graph.proofs.component.components.Goals as goal

pub components-requires-clause-set : goal.components-requires-clause-set
components-requires-clause-set c =
    let set = c.args.set.now in
    let pairs = c.args.pairs.now in
    subst (λ (k : ℕ). All (λ n. n < k) set) (sym (c.in_ok-graph.ensures.size ∙ length-map pairs pair_data)) c.requires

pub returns-clause-components : goal.returns-clause-components
returns-clause-components c =
    let rules = (system_data c.args.system.now).rules in
    let ps = map pair_data c.args.pairs.now in
    let g = c.in_ok-graph.graph in
    let set = c.args.set.now in
    if_ok_map (AreComponents (edge_of g) set) (AreComponents (Follows rules ps) set) (λ blocks are. components_of_pairs rules ps g set blocks c.in_ok-graph.ensures are)
    c.components.result c.components.ensures.components
