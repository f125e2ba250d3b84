use Rattle.std.proofs.Common.{◌+◌, ℕ, List, Option, map, get_or, Contains, sym, subst}
use Rattle.std.proofs.lemmas.List.Elements.{Contains-get_or}
use Rattle.wh_pairs.specs.PairData.{pair_data}
use Rattle.wh_system.specs.SystemView.{system_data}
use Rattle.wh_graph.specs.Least.{LeastOf}
use Rattle.wh_graph.specs.May.{Follows}
use Rattle.wh_pairs.proofs.ByPlace.{read, place_of}
use Rattle.wh_graph.proofs.LeastLemmas.{AmongBlocks, blocks_more, blocks_all}
use Rattle.wh_graph.proofs.back_edges.least_follower.Goals as goal

pub least_follower_in-requires-clause-list : goal.least_follower_in-requires-clause-list
least_follower_in-requires-clause-list c =
    let blocks = c.args.blocks.now in
    let i = c.loop-block.block-index in
    let here = read blocks i c.block-item.result c.loop-block-test.true c.block-item.is in
    λ k d within.
    let n = get_or c.as_slice.result.now k d in
    let found = subst (λ (l : List ℕ). Contains l n) c.as_slice.ensures (Contains-get_or c.as_slice.result.now k d within) in
    let at = place_of c.block-item.result n found in
    c.requires.listed n (i, (at.0, (c.block-item.result, here, at.1)))

pub loop-block-preserved : goal.loop-block-preserved
loop-block-preserved c =
    let Q : ℕ → Type 0 = Follows (system_data c.args.system.now).rules (map pair_data c.args.pairs.now) c.args.number in
    let blocks = c.args.blocks.now in
    let i = c.loop-block.block-index in
    let here = subst (λ (l : List ℕ). LeastOf (λ b. Contains l b × Q b) c.least_follower_in.result) c.as_slice.ensures c.least_follower_in.ensures in
    subst (λ (o : Option ℕ). LeastOf (AmongBlocks Q blocks (i + 1)) o) (sym c.smaller-least.ensures)
    (blocks_more Q blocks i c.block-item.result c.loop-block.least c.least_follower_in.result c.loop-block.invariant (read blocks i c.block-item.result c.loop-block-test.true c.block-item.is) here)

pub returns : goal.returns
returns c = blocks_all (Follows (system_data c.args.system.now).rules (map pair_data c.args.pairs.now) c.args.number) c.args.blocks.now c.loop-block.block-index c.loop-block.least c.loop-block-test.false c.loop-block.invariant
