use Rattle.std.proofs.Common.{ℕ, List, length, subst, arith}
use Rattle.wh_graph.specs.Times.{AreAdded, AreCounted}
use Rattle.wh_pairs.proofs.ByPlace.{read}
use Rattle.wh_graph.proofs.CountLemmas.{counted_none, counted_more}
use Rattle.wh_graph.proofs.places.count.Goals as goal

pub loop-block-init : goal.loop-block-init
loop-block-init c = counted_none c.args.set.now c.args.blocks.now 4096 c.requires.few

pub loop-block-preserved : goal.loop-block-preserved
loop-block-preserved c =
    let set = c.args.set.now in
    let blocks = c.args.blocks.now in
    let i = c.loop-block.block-index in
    let here = subst (λ (l : List ℕ). AreAdded set l (length l) c.loop-block.times c.count_in.new.times) c.as_slice.ensures c.count_in.ensures in
    counted_more set blocks i c.block-item.result c.loop-block.times c.count_in.new.times c.loop-block.invariant (read blocks i c.block-item.result c.loop-block-test.true c.block-item.is) here

pub returns : goal.returns
returns c = subst (λ (i : ℕ). AreCounted c.args.set.now c.args.blocks.now i c.loop-block.times) (omega arith) c.loop-block.invariant
