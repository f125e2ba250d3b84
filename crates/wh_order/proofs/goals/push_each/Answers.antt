use Rattle.std.proofs.Common.{refl}
use Rattle.wh_order.specs.Claims.{said}
use Rattle.wh_order.proofs.GoalLemmas.{each_none, each_next, each_all}
use Rattle.wh_order.proofs.goals.push_each.Goals as goal

pub loop-right-init : goal.loop-right-init
loop-right-init c = each_none (said c.args.claim) c.args.next c.args.left.now c.args.rights.now c.args.goals.now.items

pub loop-right-preserved : goal.loop-right-preserved
loop-right-preserved c =
    each_next (said c.args.claim) c.args.next c.args.left.now c.args.rights.now c.args.goals.now.items c.loop-right.goals.items c.push.new.self.items _ c.loop-right.right-index c.right-item.result
    c.loop-right.invariant c.in_ok-push.ensures.items (λ n. refl) (λ n w o u. (o, u)) c.loop-right-test.true c.right-item.is

pub returns : goal.returns
returns c =
    each_all (said c.args.claim) c.args.next c.args.left.now c.args.rights.now c.args.goals.now.items c.loop-right.goals.items c.loop-right.right-index c.loop-right.invariant c.loop-right-test.false
