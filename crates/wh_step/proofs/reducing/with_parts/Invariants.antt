use Rattle.std.proofs.Common.{◌≡◌, ◌++◌, map}
use Rattle.wh_terms.specs.Erase.{tm}
use Rattle.wh_step.specs.Enumerations.{around}
use Rattle.wh_step.proofs.reducing.with_parts.Given as goal

abbrev pub invariant-loop-part : goal.invariant-loop-part
invariant-loop-part l = map tm l.all.items ≡ map tm l.fn.found.items ++ map (around l.outside) (map tm l.yielded)
