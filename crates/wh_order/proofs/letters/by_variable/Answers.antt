use Rattle.std.proofs.Common.{[], ◌∙◌, arith}
use Rattle.wh_terms.specs.Tree.{head}
use Rattle.wh_order_inference.specs.Inferences.{variable}
use Rattle.wh_order_trees.specs.Trees.{tree}
use Rattle.wh_order.proofs.GoalLemmas.{stand_none}
use Rattle.wh_order.proofs.LetterTasks.{variable_none, variable_place, variable_low, variable_high, variable_is}
use Rattle.wh_order.proofs.LetterLemmas.{asks_nothing, asks}
use Rattle.wh_order.proofs.letters.by_variable.Goals as goal

pub returns-in-None : goal.returns-in-None
returns-in-None c n f prec =
    asks_nothing n prec f c.args.from c.args.two.now.next c.args.two.now.left.now c.args.two.now.right.now variable c.args.place
    (λ w o u. variable_none w.symbols prec w.metas f c.args.from c.args.two.now.next (tree n c.args.two.now.left.now) (tree n c.args.two.now.right.now) (head (tree n c.args.two.now.right.now)) c.args.place (c.number_of.ensures n w u ∙ c.in-None.is))

pub returns-then-place-ne0 : goal.returns-then-place-ne0
returns-then-place-ne0 c n f prec =
    asks_nothing n prec f c.args.from c.args.two.now.next c.args.two.now.left.now c.args.two.now.right.now variable c.args.place
    (λ w o u. variable_place w.symbols prec w.metas f c.args.from c.args.two.now.next (tree n c.args.two.now.left.now) (tree n c.args.two.now.right.now) (head (tree n c.args.two.now.right.now)) c.args.place (omega (arith, c.if-place-ne0.true)))

pub returns-then-number-from : goal.returns-then-number-from
returns-then-number-from c n f prec =
    asks_nothing n prec f c.args.from c.args.two.now.next c.args.two.now.left.now c.args.two.now.right.now variable c.args.place
    (λ w o u. variable_low w.symbols prec w.metas f c.args.from c.args.two.now.next (tree n c.args.two.now.left.now) (tree n c.args.two.now.right.now) (head (tree n c.args.two.now.right.now)) c.args.place c.in-Some.number (c.number_of.ensures n w u ∙ c.in-Some.is) c.if-number-from.true)

pub returns-then-number-two : goal.returns-then-number-two
returns-then-number-two c n f prec =
    asks_nothing n prec f c.args.from c.args.two.now.next c.args.two.now.left.now c.args.two.now.right.now variable c.args.place
    (λ w o u. variable_high w.symbols prec w.metas f c.args.from c.args.two.now.next (tree n c.args.two.now.left.now) (tree n c.args.two.now.right.now) (head (tree n c.args.two.now.right.now)) c.args.place c.in-Some.number (c.number_of.ensures n w u ∙ c.in-Some.is) c.if-number-two.true)

pub returns-else-number-two : goal.returns-else-number-two
returns-else-number-two c n f prec =
    asks n prec f c.args.from c.args.two.now.next c.args.two.now.left.now c.args.two.now.right.now variable c.args.place _ (λ w. [])
    (λ w o u. variable_is w.symbols prec w.metas f c.args.from c.args.two.now.next (tree n c.args.two.now.left.now) (tree n c.args.two.now.right.now) (head (tree n c.args.two.now.right.now)) c.args.place c.in-Some.number (omega (arith, c.if-place-ne0.false)) (c.number_of.ensures n w u ∙ c.in-Some.is) c.if-number-from.false c.if-number-two.false)
    (λ w o u. stand_none n w c.new.result.items c.new.ensures.items)
