use Rattle.std.proofs.Common.{◌≡◌, ◌++◌, take}
use Rattle.wh_poly.specs.Erase.{factors, product_of}
use Rattle.wh_poly.proofs.copying.push_copies.Given as goal

abbrev pub invariant-loop-item : goal.invariant-loop-item
invariant-loop-item l = product_of (factors l.us) ≡ product_of (factors l.initial.us ++ take l.item-index l.items)
