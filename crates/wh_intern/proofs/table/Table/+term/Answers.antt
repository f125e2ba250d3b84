use Rattle.std.proofs.Common.{ℕ, zero, ap, sym, ◌∙◌, subst, arith, refl, Contains}
use Rattle.wh_terms.specs.Tree as tree
use Rattle.wh_terms.proofs.TermLemmas.{tm_meta}
use Rattle.wh_intern.specs.Parts.{part_tree}
use Rattle.wh_intern.specs.Trees.{trees_at, tree_of, numbers}
use Rattle.wh_intern.specs.TableTrees.{trees}
use Rattle.wh_intern.proofs.TermBuilt.{all_below, terms_next}
use Rattle.wh_intern.proofs.table.Table.+term.Goals as goal

pub term-terms-requires : goal.term-terms-requires
term-terms-requires t c =
    let here = λ (n : ℕ) (m : Contains c.in-Meta.items n). c.part.ensures.below n (subst (λ p. Contains (numbers (part_tree p)) n) (sym c.in-Meta.is) m) in
    (omega arith, (c.requires, all_below c.in-Meta.items c.as_slice.result.now c.args.number c.as_slice.ensures here))

pub term-term-requires : goal.term-term-requires
term-term-requires t c =
    let low = c.part.ensures.below c.in-Lam.body
    (subst (λ p. Contains (numbers (part_tree p)) c.in-Lam.body) (sym c.in-Lam.is) (zero, omega arith, refl)) in
    (omega (arith, low), omega (arith, low, c.requires))

pub term-term-requires-in-App : goal.term-term-requires-in-App
term-term-requires-in-App t c =
    let low = c.part.ensures.below c.in-App.function
    (subst (λ p. Contains (numbers (part_tree p)) c.in-App.function) (sym c.in-App.is) (zero, omega arith, refl)) in
    (omega (arith, low), omega (arith, low, c.requires))

pub term-term-requires-in-App-2 : goal.term-term-requires-in-App-2
term-term-requires-in-App-2 t c =
    let low = c.part.ensures.below c.in-App.argument
    (subst (λ p. Contains (numbers (part_tree p)) c.in-App.argument) (sym c.in-App.is) (1, omega arith, refl)) in
    (omega (arith, low), omega (arith, low, c.requires))

pub term-returns-in_ok-terms-in-Meta : goal.term-returns-in_ok-terms-in-Meta
term-returns-in_ok-terms-in-Meta t c =
    tm_meta c.in-Meta.meta c.in_ok-terms-in-Meta.field-0
    ∙ ap (tree.meta c.in-Meta.meta) (c.in_ok-terms-in-Meta.ensures ∙ ap (trees_at (trees c.args.self.now)) c.as_slice.ensures)
    ∙ sym (c.part.ensures.tree ∙ ap (λ p. tree_of (trees c.args.self.now) (part_tree p)) c.in-Meta.is)

pub terms-loop-number-preserved : goal.terms-loop-number-preserved
terms-loop-number-preserved t c =
    terms_next (trees c.args.self.now) c.args.numbers.now c.loop-number.number-index c.loop-number.terms c.push.new.self c.in_ok-term.field-0
    c.loop-number.invariant c.in_ok-push.ensures.ok c.in_ok-term.ensures c.loop-number-test.true
