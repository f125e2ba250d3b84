use Rattle.std.proofs.Common.{refl}
use Rattle.wh_order.proofs.GoalLemmas.{pairs_none, pairs_next, pairs_all}
use Rattle.wh_order.proofs.goals.push_pairs.Goals as goal

pub loop-i-init : goal.loop-i-init
loop-i-init c = pairs_none c.args.next c.args.lefts.now c.args.rights.now c.args.goals.now.items

pub loop-i-preserved : goal.loop-i-preserved
loop-i-preserved c =
    pairs_next c.args.next c.args.lefts.now c.args.rights.now c.args.goals.now.items c.loop-i.goals.items c.push.new.self.items _ c.loop-i.i c.index-lefts-i.result c.index-rights-i.result
    c.loop-i.invariant c.in_ok-push.ensures.items (λ n. refl) (λ n w o u. (o, u)) c.loop-i-test.true c.requires c.index-lefts-i.is c.index-rights-i.is

pub returns : goal.returns
returns c =
    pairs_all c.args.next c.args.lefts.now c.args.rights.now c.args.goals.now.items c.loop-i.goals.items c.loop-i.i c.requires c.loop-i.invariant c.loop-i-test.false
