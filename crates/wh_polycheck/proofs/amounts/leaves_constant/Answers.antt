use Rattle.wh_polycheck.proofs.AmountWalk.{constant_leaves, no_constant_leaves}
use Rattle.wh_polycheck.proofs.amounts.leaves_constant.Goals as goal

pub returns-then-is_empty : goal.returns-then-is_empty
returns-then-is_empty c =
    constant_leaves c.args.items.now c.args.moves.now c.in-Some.first.now c.as_slice.result.now c.left_of_first.result c.in-Some.ensures.item.0 c.in-Some.ensures.item.1 c.as_slice.ensures c.if-is_empty.ensures c.left_of_first.ensures

pub returns-else-is_empty : goal.returns-else-is_empty
returns-else-is_empty c =
    (λ no. cc, λ leaves. absurd (no_constant_leaves c.args.items.now c.args.moves.now c.in-Some.first.now c.as_slice.result.now c.in-Some.ensures.item.0 c.in-Some.ensures.item.1 c.as_slice.ensures c.if-is_empty.ensures leaves))
