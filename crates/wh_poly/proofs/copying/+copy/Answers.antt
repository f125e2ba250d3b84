-- Item by item.
use Rattle.std.proofs.Common.{ap, sym, ◌∙◌}
use Rattle.std.proofs.Math.Seq.{take_all}
use Rattle.wh_poly.specs.Erase.{atoms, polys, monomials, factors, list, sum_of, product_of, arguments_of}
use Rattle.wh_poly.specs.declared.polynomial.Monomial.{out-roll-Monomial}
use Rattle.wh_poly.specs.declared.polynomial.Atom.{out-roll-Atom}
use Rattle.wh_poly.proofs.Lists.{poly_is, atoms_is, polys_is}
use Rattle.wh_poly.proofs.Pushes.{sum_push, product_push, arguments_push}
use Rattle.wh_poly.proofs.copying.+copy.Goals as goal

pub copy-loop-item-preserved : goal.copy-loop-item-preserved
copy-loop-item-preserved t c = sum_push (monomials c.loop-item.copies) (monomials c.push.new.self) c.as_slice-item-items.result.now c.loop-item.item-index _ c.item-item.result
    c.loop-item.invariant c.in_ok-push.ensures.ok (ap (λ r. r.coefficient) (out-roll-Monomial _)) (ap (λ r. atoms r.atoms) (out-roll-Monomial _) ∙ c.in_ok-atoms.ensures) c.loop-item-test.true c.item-item.is

pub copy-returns : goal.copy-returns
copy-returns t c = poly_is c.loop-item.copies ∙ c.loop-item.invariant ∙ ap sum_of (take_all c.loop-item.item-index c.as_slice-item-items.result.now c.loop-item-test.false ∙ c.as_slice-item-items.ensures) ∙ sym (poly_is c.args.p.now)

pub copy_factors-loop-item-preserved : goal.copy_factors-loop-item-preserved
copy_factors-loop-item-preserved t c = product_push (factors c.loop-item.copies) (factors c.push.new.self) c.as_slice-item-items.result.now c.loop-item.item-index _ c.item-item.result
    c.loop-item.invariant c.in_ok-push.ensures.ok (ap (λ r. r.head) (out-roll-Atom _)) (ap (λ r. polys r.args) (out-roll-Atom _) ∙ c.in_ok-args.ensures) c.loop-item-test.true c.item-item.is

pub copy_factors-returns : goal.copy_factors-returns
copy_factors-returns t c = atoms_is c.loop-item.copies ∙ c.loop-item.invariant ∙ ap product_of (take_all c.loop-item.item-index c.as_slice-item-items.result.now c.loop-item-test.false ∙ c.as_slice-item-items.ensures) ∙ sym (atoms_is c.args.us.now)

pub copy_arguments-loop-item-preserved : goal.copy_arguments-loop-item-preserved
copy_arguments-loop-item-preserved t c = arguments_push (list c.loop-item.copies) (list c.push.new.self) c.as_slice-item-items.result.now c.loop-item.item-index _ c.item-item.result
    c.loop-item.invariant c.in_ok-push.ensures.ok c.in_ok-copy.ensures c.loop-item-test.true c.item-item.is

pub copy_arguments-returns : goal.copy_arguments-returns
copy_arguments-returns t c = polys_is c.loop-item.copies ∙ c.loop-item.invariant ∙ ap arguments_of (take_all c.loop-item.item-index c.as_slice-item-items.result.now c.loop-item-test.false ∙ c.as_slice-item-items.ensures) ∙ sym (polys_is c.args.ps.now)
