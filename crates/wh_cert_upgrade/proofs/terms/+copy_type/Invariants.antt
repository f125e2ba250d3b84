use Rattle.std.proofs.Common.{◌≡◌, take, map}
use Rattle.wh_text.specs.Erase.{rty}
use Rattle.wh_cert_upgrade.proofs.terms.+copy_type.Given as goal

abbrev pub invariant-copy_types-loop-kind : goal.invariant-copy_types-loop-kind
invariant-copy_types-loop-kind l = map rty l.copies ≡ map rty (take l.kind-index l.kind-items)
