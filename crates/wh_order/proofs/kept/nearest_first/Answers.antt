use Rattle.std.proofs.Common.{arith, reverse}
use Rattle.wh_order.proofs.KeptLemmas.{nearest_next, nearest_end}
use Rattle.wh_order.proofs.kept.nearest_first.Goals as goal

pub loop-tree-preserved : goal.loop-tree-preserved
loop-tree-preserved c =
    nearest_next c.loop-tree.items c.push.new.self c.loop-tree.left.items c.pop.new.self.items (reverse c.args.behind.items) c.in-Some.tree c.loop-tree.invariant c.in-Some.ensures.items c.in_ok-push.ensures.ok

pub returns : goal.returns
returns c = nearest_end c.loop-tree.items c.loop-tree.left.items (reverse c.args.behind.items) c.loop-tree.invariant (omega (arith, c.in_default.ensures.cases.0, c.loop-tree.left.ok.0))
