-- A meta-variable is applied to its arguments in turn.
use Rattle.std.proofs.Common.{◌≡◌, sym, subst, IfOk}
use Rattle.wh_hopoly.specs.Erase.{expression}
use Rattle.wh_hopoly.specs.Evaluation.{Expression, var}
use Rattle.wh_polycheck.proofs.SideWalk.{side_of_meta, applied_next}
use Rattle.wh_polycheck.proofs.expressions.+expressions.Goals as goal

pub expression_of-returns-in-Meta : goal.expression_of-returns-in-Meta
expression_of-returns-in-Meta t c =
    subst (λ (d : Expression). IfOk c.meta_applied.result (λ e. expression e ≡ d))
    (sym (side_of_meta c.args.scope c.args.term.now c.in-Meta.meta c.in-Meta.items c.in-Meta.is)) c.meta_applied.ensures

pub meta_applied-loop-item-preserved : goal.meta_applied-loop-item-preserved
meta_applied-loop-item-preserved t c =
    applied_next c.args.scope (var c.args.variable) c.as_slice-item-items.result.now c.loop-item.item-index c.item-item.result
    (expression c.loop-item.whole) (expression c.in_ok-whole.whole) (expression c.in_ok-argument.argument)
    c.loop-item.invariant c.in_ok-argument.ensures c.in_ok-whole.ensures c.loop-item-test.true c.item-item.is
