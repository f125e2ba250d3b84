use Rattle.std.proofs.Common.{◌≡◌, take}
use Rattle.wh_terms.specs.Erase.{tms}
use Rattle.wh_terms.proofs.copy.+copy.Given as goal

abbrev pub invariant-copy_terms-loop-item : goal.invariant-copy_terms-loop-item
invariant-copy_terms-loop-item l = tms l.copies ≡ tms (take l.item-index l.item-items)
