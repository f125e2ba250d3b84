use Rattle.std.proofs.Common.{◌+◌, ℕ, List, Option, Contains, sym, subst}
use Rattle.wh_graph.specs.Least.{LeastOf}
use Rattle.wh_graph.specs.Times.{IsStrayIn}
use Rattle.wh_pairs.proofs.ByPlace.{read}
use Rattle.wh_graph.proofs.LeastLemmas.{AmongBlocks, blocks_none, blocks_more, blocks_all}
use Rattle.wh_graph.proofs.places.least_stray.Goals as goal

pub loop-block-init : goal.loop-block-init
loop-block-init c = blocks_none (λ n. Contains c.args.set.now n → ⊥) c.args.blocks.now

pub loop-block-preserved : goal.loop-block-preserved
loop-block-preserved c =
    let Q : ℕ → Type 0 = λ n. Contains c.args.set.now n → ⊥ in
    let blocks = c.args.blocks.now in
    let i = c.loop-block.block-index in
    let here = subst (λ (l : List ℕ). LeastOf (IsStrayIn c.args.set.now l) c.least_stray_in.result) c.as_slice.ensures c.least_stray_in.ensures in
    subst (λ (o : Option ℕ). LeastOf (AmongBlocks Q blocks (i + 1)) o) (sym c.smaller-least.ensures)
    (blocks_more Q blocks i c.block-item.result c.loop-block.least c.least_stray_in.result c.loop-block.invariant (read blocks i c.block-item.result c.loop-block-test.true c.block-item.is) here)

pub returns : goal.returns
returns c = blocks_all (λ n. Contains c.args.set.now n → ⊥) c.args.blocks.now c.loop-block.block-index c.loop-block.least c.loop-block-test.false c.loop-block.invariant
