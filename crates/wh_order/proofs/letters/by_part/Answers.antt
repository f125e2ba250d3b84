use Rattle.std.proofs.lemmas.Result.{IfOk-weaker}
use Rattle.wh_terms.specs.Tree.{head}
use Rattle.wh_order_inference.specs.Inferences.{part}
use Rattle.wh_order_trees.specs.Trees.{tree}
use Rattle.std.proofs.Common.{[], ◌∷◌}
use Rattle.wh_order_path.specs.Verdict.{at_least}
use Rattle.wh_order.proofs.LetterTasks.{part_none, part_some}
use Rattle.wh_order.proofs.LetterLemmas.{asks_nothing, asks}
use Rattle.wh_order.proofs.letters.by_part.Goals as goal

pub returns-in-None : goal.returns-in-None
returns-in-None c n f from prec =
    asks_nothing n prec f from c.args.two.now.next c.args.two.now.left.now c.args.two.now.right.now part c.args.place
    (λ w o u. part_none w.symbols prec w.metas f from c.args.two.now.next (tree n c.args.two.now.left.now) (tree n c.args.two.now.right.now) (head (tree n c.args.two.now.right.now)) c.args.place (c.in-None.ensures n w o))

pub returns-in-Some : goal.returns-in-Some
returns-in-Some c =
    IfOk-weaker c.one.result _ _
    (λ r h n f from prec. asks n prec f from c.args.two.now.next c.args.two.now.left.now c.args.two.now.right.now part c.args.place r
    (λ w. record { claim = at_least; next = c.args.two.now.next; left = tree n c.in-Some.item.now; right = tree n c.args.two.now.right.now } ∷ [])
    (λ w o u. part_some w.symbols prec w.metas f from c.args.two.now.next (tree n c.args.two.now.left.now) (tree n c.args.two.now.right.now) (head (tree n c.args.two.now.right.now)) (tree n c.in-Some.item.now) c.args.place (c.in-Some.ensures n w o).0)
    (λ w o u. h n w ((c.in-Some.ensures n w o).1, u)))
    c.one.ensures
