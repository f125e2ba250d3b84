use Rattle.std.proofs.Common.{◌≡◌, take}
use Rattle.wh_poly.specs.Arithmetic.{raised, renumber, renumber_factors, renumber_arguments}
use Rattle.wh_poly.specs.Erase.{monomials, factors, list, sum_of, product_of, arguments_of}
use Rattle.wh_hopoly.proofs.renumbering.+raise.Given as goal

abbrev pub invariant-raise-loop-item : goal.invariant-raise-loop-item
invariant-raise-loop-item l = sum_of (monomials l.copies) ≡ renumber (raised l.from l.by) (sum_of (take l.item-index l.item-items))

abbrev pub invariant-raise_factors-loop-item : goal.invariant-raise_factors-loop-item
invariant-raise_factors-loop-item l = product_of (factors l.copies) ≡ renumber_factors (raised l.from l.by) (product_of (take l.item-index l.item-items))

abbrev pub invariant-raise_arguments-loop-item : goal.invariant-raise_arguments-loop-item
invariant-raise_arguments-loop-item l = arguments_of (list l.copies) ≡ renumber_arguments (raised l.from l.by) (arguments_of (take l.item-index l.item-items))
