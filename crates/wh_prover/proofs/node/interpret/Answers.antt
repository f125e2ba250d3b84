use Rattle.std.proofs.Common.{◌≡◌, ◌<◌, ℕ, List, map, reverse, All, ap, subst, ◌∙◌}
use Rattle.std.proofs.lemmas.List.{length-map}
use Rattle.wh_system.specs.SystemView.{system_data}
use Rattle.wh_pairs.specs.PairData.{pair_data}
use Rattle.wh_pairs.specs.Views.{pairs_data}
use Rattle.wh_cert.specs.Said.{said_node}
use Rattle.wh_pairs.specs.Sets.{IsKept, IsSetOf}
use Rattle.wh_interpreting.specs.Interpreted.{Interprets, IsInterpreted}
use Rattle.wh_prover.proofs.ArriveLemmas.{arrives_within}
use Rattle.wh_prover.proofs.NodeLemmas.{adds_interpretation, dropped_by_interpretation, some_of}
use Rattle.wh_prover.proofs.WalkLemmas.{said_push}
use Rattle.wh_proof.proofs.BlockLemmas.{reverse_push}
use Rattle.wh_prover.proofs.node.interpret.Goals as goal

pub interpretation_of-requires-clause-set : goal.interpretation_of-requires-clause-set
interpretation_of-requires-clause-set c =
    let pairs = c.args.setting.now.pairs.now in
    let set = c.args.set in
    subst (λ n. All (λ m. m < n) set) (length-map pairs pair_data) (arrives_within (system_data c.args.setting.now.system.now) (pairs_data pairs) set c.requires.ended.arrives)

pub returns-in_ok-push-in-Found-2 : goal.returns-in_ok-push-in-Found-2
returns-in_ok-push-in-Found-2 c =
    let d = system_data c.args.setting.now.system.now in
    let ps = pairs_data c.args.setting.now.pairs.now in
    let set = c.args.set in
    let node = c.in-Found.node in
    let line = said_node node in
    let stack = c.args.stack.now.items in
    let rest = c.in_ok-kept-in-Found.field-0 in
    let found : Interprets d ps set line = subst (IsInterpreted d ps set c.args.setting.now.tries) c.in-Found.is c.in_ok-node.ensures in
    let drops : c.dropped_by.result.now ≡ found.is.evidence.drop = c.dropped_by.ensures ∙ dropped_by_interpretation d ps set line found in
    let kept = subst (λ (s : List ℕ). IsSetOf (IsKept set s) rest) drops c.in_ok-kept-in-Found.ensures in
    adds_interpretation d ps set rest line (reverse stack) (reverse c.push.new.self.items) (map said_node c.args.nodes.now) (map said_node c.push-in-Found.new.self)
    c.requires.ended c.requires.none found kept
    (ap reverse c.in_ok-push-in-Found.ensures.items ∙ reverse_push stack rest)
    (said_push c.args.nodes.now c.push-in-Found.new.self node c.in_ok-push-in-Found-2.ensures.ok)

pub interpretation_of-requires-clause-some : goal.interpretation_of-requires-clause-some
interpretation_of-requires-clause-some c = some_of c.args.set c.requires.ended.knot.some
