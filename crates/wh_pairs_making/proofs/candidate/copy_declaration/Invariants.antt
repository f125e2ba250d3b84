use Rattle.std.proofs.Common.{◌≡◌, take}
use Rattle.wh_types.specs.Erase.{tys}
use Rattle.wh_pairs_making.proofs.candidate.copy_declaration.Given as goal

abbrev pub invariant-loop-kind : goal.invariant-loop-kind
invariant-loop-kind l = tys l.args ≡ tys (take l.kind-index l.kind-items)
