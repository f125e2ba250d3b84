use Rattle.std.proofs.Common.{◌<◌, ◌≤◌, ℕ, List, map, reverse, All, sym, ap, subst, ◌∙◌}
use Rattle.std.proofs.lemmas.List.{length-map}
use Rattle.wh_system.specs.SystemView.{system_data}
use Rattle.wh_pairs.specs.PairData.{pair_data}
use Rattle.wh_pairs.specs.Views.{pairs_data}
use Rattle.wh_subterm.specs.SubtermRows.{chosen}
use Rattle.wh_cert.specs.Said.{said_node}
use Rattle.wh_pairs.specs.Sets.{IsKept, IsSetOf}
use Rattle.wh_find_subterm.specs.Found.{IsAnswer}
use Rattle.wh_prover.proofs.ArriveLemmas.{arrives_within}
use Rattle.wh_prover.proofs.LimitLemmas.{choices_named, choices_low}
use Rattle.wh_intern_pairs.specs.Numberings.{IsNumbering}
use Rattle.wh_intern_pairs.specs.declared.numbered.Numbered.{Numbered}
use Rattle.wh_prover.proofs.NodeLemmas.{adds_subterm, borrowed}
use Rattle.wh_prover.proofs.WalkLemmas.{said_push}
use Rattle.wh_proof.proofs.BlockLemmas.{reverse_push}
use Rattle.wh_prover.proofs.node.lower.Goals as goal

pub number_if_shared-requires-clause-pairs : goal.number_if_shared-requires-clause-pairs
number_if_shared-requires-clause-pairs c = (system_data c.args.setting.now.system.now, c.requires.pairs)

pub number_if_shared-requires-clause-set : goal.number_if_shared-requires-clause-set
number_if_shared-requires-clause-set c =
    let pairs = c.args.setting.now.pairs.now in
    let set = c.args.set in
    subst (λ n. All (λ m. m < n) set) (length-map pairs pair_data) (arrives_within (system_data c.args.setting.now.system.now) (pairs_data pairs) set c.requires.ended.arrives)

pub find_projection_by-requires-clause-set : goal.find_projection_by-requires-clause-set
find_projection_by-requires-clause-set c =
    let pairs = c.args.setting.now.pairs.now in
    let set = c.args.set in
    subst (λ n. All (λ m. m < n) set) (length-map pairs pair_data) (arrives_within (system_data c.args.setting.now.system.now) (pairs_data pairs) set c.requires.ended.arrives)

pub find_projection_by-requires-clause-numbered : goal.find_projection_by-requires-clause-numbered
find_projection_by-requires-clause-numbered c =
    borrowed (λ (n : Numbered). IsNumbering n (pairs_data c.args.setting.now.pairs.now)) c.as_ref.result c.number_if_shared.new.numbered c.as_ref.ensures.value
    c.in_ok-number_if_shared.ensures.numbered

pub node_of-requires-clause-symbols : goal.node_of-requires-clause-symbols
node_of-requires-clause-symbols c =
    let d = system_data c.args.setting.now.system.now in
    let found = subst (IsAnswer d.rules (pairs_data c.args.setting.now.pairs.now) c.args.set c.args.setting.now.tries) c.in-Found.is c.in_ok-found.ensures in
    choices_named d c.in-Found.found.args c.is_well_made.ensures found.1.places

pub node_of-requires-clause-arguments : goal.node_of-requires-clause-arguments
node_of-requires-clause-arguments c =
    let d = system_data c.args.setting.now.system.now in
    let found = subst (IsAnswer d.rules (pairs_data c.args.setting.now.pairs.now) c.args.set c.args.setting.now.tries) c.in-Found.is c.in_ok-found.ensures in
    choices_low d c.in-Found.found.args c.is_well_made.ensures found.1.places

pub returns-in_ok-push-in-Found-2-clause-node : goal.returns-in_ok-push-in-Found-2-clause-node
returns-in_ok-push-in-Found-2-clause-node c =
    let d = system_data c.args.setting.now.system.now in
    let pairs = c.args.setting.now.pairs.now in
    let ps = pairs_data pairs in
    let set = c.args.set in
    let drop = c.in-Found.found.drop in
    let rest = c.in_ok-kept-in-Found.field-0 in
    let node = c.in_ok-node_of-in-Found.field-0 in
    let stack = c.args.stack.now.items in
    let found = subst (IsAnswer d.rules ps set c.args.setting.now.tries) c.in-Found.is c.in_ok-found.ensures in
    let few = subst (λ n. n ≤ 4096) (sym (length-map pairs pair_data)) c.requires.few in
    let kept = subst (λ (s : List ℕ). IsSetOf (IsKept set s) rest) c.as_slice.ensures.numbers c.in_ok-kept-in-Found.ensures in
    adds_subterm d ps set drop rest (map chosen c.in-Found.found.args) (said_node node) (reverse stack) (reverse c.push.new.self.items) (map said_node c.args.nodes.now) (map said_node c.push-in-Found.new.self)
    c.is_well_made.ensures few c.requires.ended found.1 found.2 kept c.in_ok-node_of-in-Found.ensures
    (ap reverse c.in_ok-push-in-Found.ensures.items ∙ reverse_push stack rest)
    (said_push c.args.nodes.now c.push-in-Found.new.self node c.in_ok-push-in-Found-2.ensures.ok)
