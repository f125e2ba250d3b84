use Rattle.std.proofs.Common.{◌≡◌, ℕ, List, length, map, rules, sym, subst, ◌∙◌, arith}
use Rattle.std.proofs.lemmas.List.{length-map}
use Rattle.wh_pairs.specs.PairData.{pair_data}
use Rattle.wh_pairs.specs.declared.pair.Pair.{Pair}
use Rattle.wh_system.specs.SystemView.{system_data}
use Rattle.wh_graph.specs.Graphs.{AreLists, AreWithin, Edge, Turned}
use Rattle.wh_graph.specs.May.{Follows}
use Rattle.wh_graph.proofs.GraphLemmas.{followers_within, graph_made}
use Rattle.wh_graph.proofs.edges.Graph.new.Goals as goal

pub turned-requires-clause-within : goal.turned-requires-clause-within
turned-requires-clause-within c =
    let pairs = c.args.pairs.now in
    let count : c.in_ok-count.count ≡ length pairs = search rules in
    let followers = subst (λ (l : List Pair). AreLists (Follows (system_data c.args.system.now).rules (map pair_data l)) c.in_ok-count.count c.in_ok-followers.followers.items) c.as_slice-2.ensures c.in_ok-followers.ensures in
    subst AreWithin (sym c.deref.ensures.value) (followers_within (system_data c.args.system.now).rules (map pair_data pairs) c.in_ok-count.count c.in_ok-followers.followers.items (count ∙ sym (length-map pairs pair_data)) followers)

pub returns : goal.returns
returns c =
    let pairs = c.args.pairs.now in
    let count : c.in_ok-count.count ≡ length pairs = search rules in
    let followers = subst (λ (l : List Pair). AreLists (Follows (system_data c.args.system.now).rules (map pair_data l)) c.in_ok-count.count c.in_ok-followers.followers.items) c.as_slice-2.ensures c.in_ok-followers.ensures in
    let leaders = subst (λ (l : List (List ℕ)). AreLists (Turned (Edge l)) (length l) c.in_ok-leaders.leaders.items) c.deref.ensures.value c.in_ok-leaders.ensures in
    graph_made (system_data c.args.system.now).rules (map pair_data pairs) _ c.in_ok-count.count (omega arith) (count ∙ sym (length-map pairs pair_data)) followers leaders
