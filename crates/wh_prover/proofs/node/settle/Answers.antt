use Rattle.std.proofs.Common.{◌≡◌, ◌≢◌, ◌<◌, ◌≤◌, ◌++◌, ℕ, List, [], length, map, reverse, All, sym, ap, subst, ◌∙◌, arith}
use Rattle.std.proofs.lemmas.List.{length-map}
use Rattle.wh_system.specs.SystemView.{system_data}
use Rattle.wh_pairs.specs.PairData.{pair_data, IsIncreasing}
use Rattle.wh_pairs.specs.Views.{pairs_data}
use Rattle.wh_cert.specs.Said.{said_node}
use Rattle.wh_cert.specs.declared.certificate.Node.TheVariants as code
use Rattle.wh_graph.specs.Graphs.{edge_of, size_of}
use Rattle.wh_graph.specs.May.{Follows}
use Rattle.wh_graph.proofs.GraphLemmas.{components_of_pairs}
use Rattle.wh_prover.specs.Arriving.{IsAlone, IsAloneUnder}
use Rattle.wh_prover.proofs.ArriveLemmas.{arrives_within, ended}
use Rattle.wh_prover.proofs.NodeLemmas.{adds_done, adds_alone, adds_blocks, alone_same, tested_none, tested_some, not_so}
use Rattle.wh_prover.proofs.SetLemmas.{sets_of_increasing}
use Rattle.wh_prover.proofs.WalkLemmas.{said_push}
use Rattle.wh_prover.proofs.node.settle.Goals as goal

pub returns-then-is_empty-clause-node : goal.returns-then-is_empty-clause-node
returns-then-is_empty-clause-node c =
    let nodes = c.args.nodes.now in
    let longer = c.push.new.self in
    let empty = sym c.as_slice.ensures.numbers ∙ tested_none c.as_slice.result.now c.is_empty.result c.is_empty.ensures c.if-is_empty.true in
    adds_done (system_data c.args.setting.now.system.now) (pairs_data c.args.setting.now.pairs.now) c.args.set (reverse c.args.stack.now.items) (map said_node nodes) (map said_node longer) empty
    (said_push nodes longer code.Done c.in_ok-push.ensures.ok)

pub components-requires-clause-graph : goal.components-requires-clause-graph
components-requires-clause-graph c = c.requires.graph.graph

pub components-requires-clause-set : goal.components-requires-clause-set
components-requires-clause-set c =
    let set = c.args.set in
    subst (λ n. All (λ m. m < n) set) (sym c.requires.graph.size) (arrives_within (system_data c.args.setting.now.system.now) (pairs_data c.args.setting.now.pairs.now) set c.requires.arrives)

pub returns-then-as_slice-gt1-clause-node : goal.returns-then-as_slice-gt1-clause-node
returns-then-as_slice-gt1-clause-node c =
    let pairs = c.args.setting.now.pairs.now in
    let ps = pairs_data pairs in
    let set = c.args.set in
    let nodes = c.args.nodes.now in
    let longer = c.push-then-as_slice-gt1.new.self in
    let parts = c.in_ok-blocks.blocks in
    let sets = reverse c.args.stack.now.items in
    let few = subst (λ n. n ≤ 4096) (sym (length-map pairs pair_data)) c.requires.few in
    let enough : 2 ≤ length parts = omega (arith, c.if-as_slice-gt1.true, ap (λ (l : List (List ℕ)). length l) c.as_slice-2.ensures) in
    let blocks = c.as_slice-then-as_slice-gt1.result.now in
    let blocks_are : blocks ≡ parts = c.as_slice-then-as_slice-gt1.ensures in
    let (opened, are, put) = c.in_ok-open_blocks.ensures in
    let same = sets_of_increasing blocks opened (subst (All IsIncreasing) (sym blocks_are) c.in_ok-blocks.ensures.increasing) are ∙ blocks_are in
    adds_blocks (system_data c.args.setting.now.system.now) ps set parts sets (reverse c.open_blocks.new.stack.items) (map said_node nodes) (map said_node longer) few c.as_slice.ensures.increasing c.requires.arrives
    (components_of_pairs (system_data c.args.setting.now.system.now).rules ps c.args.graph.now set parts c.requires.graph c.in_ok-blocks.ensures.components)
    c.in_ok-blocks.ensures.increasing enough
    (put ∙ ap (λ (l : List (List ℕ)). l ++ sets) same)
    (said_push nodes longer (code.Blocks parts) c.in_ok-push-2.ensures.ok)

pub is_alone-requires : goal.is_alone-requires
is_alone-requires c =
    let set = c.args.set in
    let graph = c.args.graph.now in
    let within = subst (λ n. All (λ m. m < n) set) (sym c.requires.graph.size) (arrives_within (system_data c.args.setting.now.system.now) (pairs_data c.args.setting.now.pairs.now) set c.requires.arrives) in
    subst (All (λ m. m < size_of graph)) (sym c.as_slice-3.ensures.numbers) within

pub returns-then-is_alone-clause-node : goal.returns-then-is_alone-clause-node
returns-then-is_alone-clause-node c =
    let d = system_data c.args.setting.now.system.now in
    let nodes = c.args.nodes.now in
    let longer = c.push-then-is_alone.new.self in
    let ps = pairs_data c.args.setting.now.pairs.now in
    let same = alone_same (edge_of c.args.graph.now) (Follows d.rules ps) c.as_slice-3.result.now c.requires.graph.each in
    let here = subst (λ (s : List ℕ). IsAlone d.rules ps s) c.as_slice-3.ensures.numbers (same.0 (c.is_alone.ensures.0 c.if-is_alone.true)) in
    adds_alone d ps c.args.set (reverse c.args.stack.now.items) (map said_node nodes) (map said_node longer) here
    (said_push nodes longer code.Alone c.in_ok-push-3.ensures.ok)

pub lower-requires-clause-ended : goal.lower-requires-clause-ended
lower-requires-clause-ended c =
    let d = system_data c.args.setting.now.system.now in
    let ps = pairs_data c.args.setting.now.pairs.now in
    let set = c.args.set in
    let some = subst (λ (s : List ℕ). s ≢ []) c.as_slice.ensures.numbers (tested_some c.as_slice.result.now c.is_empty.result c.is_empty.ensures c.if-is_empty.false) in
    let few : length c.in_ok-blocks.blocks ≤ 1 = omega (arith, c.if-as_slice-gt1.false, ap (λ (l : List (List ℕ)). length l) c.as_slice-2.ensures) in
    let graph = c.args.graph.now in
    let free = not_so c.is_alone.result (IsAloneUnder (edge_of graph) c.as_slice-3.result.now) c.is_alone.ensures.1 c.if-is_alone.false in
    let same = alone_same (edge_of graph) (Follows d.rules ps) c.as_slice-3.result.now c.requires.graph.each in
    let not_alone = subst (λ (s : List ℕ). IsAlone d.rules ps s → ⊥) c.as_slice-3.ensures.numbers (λ alone. free (same.1 alone)) in
    let are = components_of_pairs d.rules ps graph set c.in_ok-blocks.blocks c.requires.graph c.in_ok-blocks.ensures.components in
    ended d ps set c.in_ok-blocks.blocks c.requires.arrives some are few not_alone
