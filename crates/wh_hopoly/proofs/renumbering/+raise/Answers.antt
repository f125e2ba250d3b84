-- Item by item.
use Rattle.std.proofs.Common.{ap, sym, ◌∙◌}
use Rattle.std.proofs.Math.Seq.{take_all}
use Rattle.wh_poly.specs.Arithmetic.{raised, renumber, renumber_factors, renumber_arguments}
use Rattle.wh_poly.specs.Erase.{atoms, polys, monomials, factors, list, sum_of, product_of, arguments_of}
use Rattle.wh_poly.specs.declared.polynomial.Monomial.{out-roll-Monomial}
use Rattle.wh_poly.specs.declared.polynomial.Atom.{out-roll-Atom}
use Rattle.wh_poly.proofs.Lists.{poly_is, atoms_is, polys_is}
use Rattle.wh_hopoly.proofs.RenumberLaws.{renumbered_push, renumbered_factor_push, renumbered_argument_push}
use Rattle.wh_hopoly.proofs.renumbering.+raise.Goals as goal

pub raise-loop-item-preserved : goal.raise-loop-item-preserved
raise-loop-item-preserved t c = renumbered_push (raised c.args.from c.args.by) (monomials c.loop-item.copies) (monomials c.push.new.self) c.as_slice-item-items.result.now c.loop-item.item-index _ c.item-item.result
    c.loop-item.invariant c.in_ok-push.ensures.ok (ap (λ r. r.coefficient) (out-roll-Monomial _)) (ap (λ r. atoms r.atoms) (out-roll-Monomial _) ∙ c.in_ok-atoms.ensures) c.loop-item-test.true c.item-item.is

pub raise-returns : goal.raise-returns
raise-returns t c = poly_is c.loop-item.copies ∙ c.loop-item.invariant
    ∙ ap (λ xs. renumber (raised c.args.from c.args.by) (sum_of xs)) (take_all c.loop-item.item-index c.as_slice-item-items.result.now c.loop-item-test.false ∙ c.as_slice-item-items.ensures)
    ∙ ap (renumber (raised c.args.from c.args.by)) (sym (poly_is c.args.p.now))

pub raise_factors-loop-item-preserved : goal.raise_factors-loop-item-preserved
raise_factors-loop-item-preserved t c = renumbered_factor_push (raised c.args.from c.args.by) (factors c.loop-item.copies) (factors c.push.new.self) c.as_slice-item-items.result.now c.loop-item.item-index _ c.item-item.result
    c.loop-item.invariant c.in_ok-push.ensures.ok (ap (λ r. r.head) (out-roll-Atom _) ∙ c.in_ok-head.ensures) (ap (λ r. polys r.args) (out-roll-Atom _) ∙ c.in_ok-args.ensures) c.loop-item-test.true c.item-item.is

pub raise_factors-returns : goal.raise_factors-returns
raise_factors-returns t c = atoms_is c.loop-item.copies ∙ c.loop-item.invariant
    ∙ ap (λ xs. renumber_factors (raised c.args.from c.args.by) (product_of xs)) (take_all c.loop-item.item-index c.as_slice-item-items.result.now c.loop-item-test.false ∙ c.as_slice-item-items.ensures)
    ∙ ap (renumber_factors (raised c.args.from c.args.by)) (sym (atoms_is c.args.us.now))

pub raise_arguments-loop-item-preserved : goal.raise_arguments-loop-item-preserved
raise_arguments-loop-item-preserved t c = renumbered_argument_push (raised c.args.from c.args.by) (list c.loop-item.copies) (list c.push.new.self) c.as_slice-item-items.result.now c.loop-item.item-index _ c.item-item.result
    c.loop-item.invariant c.in_ok-push.ensures.ok c.in_ok-raise.ensures c.loop-item-test.true c.item-item.is

pub raise_arguments-returns : goal.raise_arguments-returns
raise_arguments-returns t c = polys_is c.loop-item.copies ∙ c.loop-item.invariant
    ∙ ap (λ xs. renumber_arguments (raised c.args.from c.args.by) (arguments_of xs)) (take_all c.loop-item.item-index c.as_slice-item-items.result.now c.loop-item-test.false ∙ c.as_slice-item-items.ensures)
    ∙ ap (renumber_arguments (raised c.args.from c.args.by)) (sym (polys_is c.args.ps.now))
