use Rattle.std.proofs.Common.{◌≡◌, take}
use Rattle.wh_poly.specs.Erase.{monomials, factors, list, sum_of, product_of, arguments_of}
use Rattle.wh_poly.proofs.copying.+copy.Given as goal

abbrev pub invariant-copy-loop-item : goal.invariant-copy-loop-item
invariant-copy-loop-item l = sum_of (monomials l.copies) ≡ sum_of (take l.item-index l.item-items)

abbrev pub invariant-copy_factors-loop-item : goal.invariant-copy_factors-loop-item
invariant-copy_factors-loop-item l = product_of (factors l.copies) ≡ product_of (take l.item-index l.item-items)

abbrev pub invariant-copy_arguments-loop-item : goal.invariant-copy_arguments-loop-item
invariant-copy_arguments-loop-item l = arguments_of (list l.copies) ≡ arguments_of (take l.item-index l.item-items)
