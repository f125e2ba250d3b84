-- The parts of a node are below it, and a meta-variable is applied to its arguments in turn.
use Rattle.std.proofs.Common.{ℕ, zero, Contains, refl, ap, sym, ◌∙◌, subst, arith}
use Rattle.wh_types.specs.Erase.{ty}
use Rattle.wh_hopoly.specs.Erase.{expression}
use Rattle.wh_hopoly.specs.Evaluation.{var}
use Rattle.wh_intern.specs.Parts.{part_tree}
use Rattle.wh_intern.specs.TableTrees.{trees}
use Rattle.wh_intern.specs.Trees.{numbers}
use Rattle.wh_intern.proofs.TermBuilt.{all_below}
use Rattle.wh_intern_pairs.proofs.ExpressionsByNumber.{lam_told, applied_next}
use Rattle.wh_intern_pairs.proofs.expressions.+expressions.Goals as goal

pub expression_of-meta_applied-requires : goal.expression_of-meta_applied-requires
expression_of-meta_applied-requires t c =
    let here = λ (n : ℕ) (m : Contains c.in-Meta.items n). c.part.ensures.below n (subst (λ p. Contains (numbers (part_tree p)) n) (sym c.in-Meta.is) m) in
    (omega arith, (c.requires, all_below c.in-Meta.items c.as_slice.result.now c.args.number c.as_slice.ensures here))

pub expression_of-expression_of-requires : goal.expression_of-expression_of-requires
expression_of-expression_of-requires t c =
    let low = c.part.ensures.below c.in-Lam.body
    (subst (λ p. Contains (numbers (part_tree p)) c.in-Lam.body) (sym c.in-Lam.is) (zero, omega arith, refl)) in
    (omega (arith, low), omega (arith, low, c.requires))

pub expression_of-expression_of-requires-in-App : goal.expression_of-expression_of-requires-in-App
expression_of-expression_of-requires-in-App t c =
    let low = c.part.ensures.below c.in-App.function
    (subst (λ p. Contains (numbers (part_tree p)) c.in-App.function) (sym c.in-App.is) (zero, omega arith, refl)) in
    (omega (arith, low), omega (arith, low, c.requires))

pub expression_of-expression_of-requires-in-App-2 : goal.expression_of-expression_of-requires-in-App-2
expression_of-expression_of-requires-in-App-2 t c =
    let low = c.part.ensures.below c.in-App.argument
    (subst (λ p. Contains (numbers (part_tree p)) c.in-App.argument) (sym c.in-App.is) (1, omega arith, refl)) in
    (omega (arith, low), omega (arith, low, c.requires))

pub expression_of-returns-in_ok-new-in-Lam : goal.expression_of-returns-in_ok-new-in-Lam
expression_of-returns-in_ok-new-in-Lam t c =
    lam_told (trees c.args.table.now) c.args.number (part_tree c.part.result.now) (ty c.in-Lam.kind) (ty c.in_ok-kind-in-Lam.kind) c.in-Lam.body c.args.scope
    c.in_ok-sum-in-Lam.field-0 (expression c.in_ok-new-in-Lam.field-0.value) c.part.ensures.tree (ap part_tree c.in-Lam.is) c.in_ok-kind-in-Lam.ensures
    c.in_ok-sum-in-Lam.ensures (ap expression c.in_ok-new-in-Lam.ensures.ok ∙ c.in_ok-body-in-Lam.ensures)

pub meta_applied-loop-number-preserved : goal.meta_applied-loop-number-preserved
meta_applied-loop-number-preserved t c =
    applied_next c.args.scope (var c.args.variable) (trees c.args.table.now) c.args.numbers.now c.loop-number.number-index
    (expression c.loop-number.whole) (expression c.in_ok-whole.whole) (expression c.in_ok-argument.argument)
    c.loop-number.invariant c.in_ok-argument.ensures c.in_ok-whole.ensures c.loop-number-test.true
