use Rattle.std.proofs.Common.{List, [], sym, subst}
use Rattle.wh_terms.specs.Tree.{Tm}
use Rattle.wh_order_path.specs.Verdict.{above, each}
use Rattle.wh_order_trees.specs.Trees.{tree}
use Rattle.wh_order.specs.Claims.{StandFor}
use Rattle.wh_order.proofs.GoalLemmas.{stand_none}
use Rattle.wh_order.proofs.letters.above_each.Goals as goal

pub returns : goal.returns
returns c n w o u =
    let has = c.arguments_of.ensures n w u in
    subst (λ (l : List Tm). StandFor n w c.push_each.new.goals.items (each (above c.args.from) c.args.two.now.next (tree n c.args.two.now.left.now) l)) (sym has.0)
    (c.in_ok-push_each.ensures n w [] o has.1 (stand_none n w c.new-goals.result.items c.new-goals.ensures.items))
