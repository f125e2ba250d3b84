use Rattle.std.proofs.Common.{arith, reverse, sym, ◌∙◌}
use Rattle.std.proofs.lemmas.Bool.{true≢false}
use Rattle.wh_order.proofs.KeptLemmas.{merged, chosen_here, chosen_other, chosen_end}
use Rattle.wh_order.proofs.kept.chosen.Goals as goal

pub loop-tree-preserved-then-stands_at : goal.loop-tree-preserved-then-stands_at
loop-tree-preserved-then-stands_at c =
    chosen_here c.args.places.now c.loop-tree.wanted c.loop-tree.place c.in_ok-place.place c.loop-tree.items c.push.new.self c.loop-tree.left.items c.pop.new.self.items
    (merged 0 c.args.places.now (reverse c.args.behind.items)) c.in-Some.tree c.loop-tree.invariant c.in-Some.ensures.items c.in_ok-place.ensures (c.stands_at.ensures.0 c.if-stands_at.true) c.in_ok-push.ensures.ok

pub loop-tree-preserved : goal.loop-tree-preserved
loop-tree-preserved c =
    chosen_other c.args.places.now c.loop-tree.wanted c.loop-tree.place c.in_ok-place.place c.loop-tree.items c.loop-tree.left.items c.pop.new.self.items
    (merged 0 c.args.places.now (reverse c.args.behind.items)) c.in-Some.tree c.loop-tree.invariant c.in-Some.ensures.items c.in_ok-place.ensures
    (λ e. true≢false (sym (c.stands_at.ensures.1 e) ∙ c.if-stands_at.false))

pub returns : goal.returns
returns c some inc =
    chosen_end c.args.places.now c.loop-tree.wanted c.loop-tree.place c.loop-tree.items c.loop-tree.left.items (reverse c.args.behind.items) c.loop-tree.invariant
    (omega (arith, c.in_default.ensures.cases.0, c.loop-tree.left.ok.0)) some inc
