use Rattle.std.proofs.Common.{◌<◌, ℕ, List, [], ◌∷◌, ◌++◌, map, reverse, All, ap, subst, ◌∙◌}
use Rattle.std.proofs.lemmas.List.{length-map}
use Rattle.wh_system.specs.SystemView.{system_data}
use Rattle.wh_pairs.specs.PairData.{pair_data}
use Rattle.wh_pairs.specs.Views.{pairs_data}
use Rattle.wh_order_inference.specs.Said.{inference}
use Rattle.wh_cert.specs.Said.{said_node, said_filter, said_order}
use Rattle.wh_cert.specs.declared.certificate.Node.TheVariants as code
use Rattle.wh_cert.specs.declared.order_node.OrderNode.{OrderNode}
use Rattle.wh_pairs.specs.Sets.{IsKept, IsSetOf}
use Rattle.wh_find_order.specs.Answers.{IsAnswer, IsOrder}
use Rattle.wh_prover.proofs.ArriveLemmas.{arrives_within}
use Rattle.wh_prover.proofs.NodeLemmas.{adds_order}
use Rattle.wh_prover.proofs.WalkLemmas.{said_push}
use Rattle.wh_proof.proofs.BlockLemmas.{reverse_push}
use Rattle.wh_prover.proofs.node.order.Goals as goal

pub find_order-requires-clause-set : goal.find_order-requires-clause-set
find_order-requires-clause-set c =
    let pairs = c.args.setting.now.pairs.now in
    let set = c.args.set in
    subst (λ n. All (λ m. m < n) set) (length-map pairs pair_data) (arrives_within (system_data c.args.setting.now.system.now) (pairs_data pairs) set c.requires.ended.arrives)

pub returns-in_ok-push-in-Found-2 : goal.returns-in_ok-push-in-Found-2
returns-in_ok-push-in-Found-2 c =
    let d = system_data c.args.setting.now.system.now in
    let ps = pairs_data c.args.setting.now.pairs.now in
    let set = c.args.set in
    let node = c.in-Found.found in
    let stack = c.args.stack.now.items in
    let rest = c.in_ok-kept-in-Found.field-0 in
    let found : IsOrder d ps set (said_order node) = subst (IsAnswer d ps set c.args.setting.now.tries) c.in-Found.is c.in_ok-found.ensures in
    let kept = subst (λ (s : List ℕ). IsSetOf (IsKept set s) rest) c.as_slice.ensures c.in_ok-kept-in-Found.ensures in
    adds_order d ps set rest (map said_filter node.funs) (map said_filter node.marks) (map inference node.rules) (map inference node.pairs) node.drop
    (reverse stack) (reverse c.push.new.self.items) (map said_node c.args.nodes.now) (map said_node c.push-in-Found.new.self)
    c.requires.ended c.requires.none c.requires.none_either.over_all found kept
    (ap reverse c.in_ok-push-in-Found.ensures.items ∙ reverse_push stack rest)
    (said_push c.args.nodes.now c.push-in-Found.new.self (code.Order c.in_ok-new-in-Found.field-0) c.in_ok-push-in-Found-2.ensures.ok
    ∙ ap (λ (x : OrderNode). map said_node c.args.nodes.now ++ said_order x ∷ []) c.in_ok-new-in-Found.ensures.ok)
