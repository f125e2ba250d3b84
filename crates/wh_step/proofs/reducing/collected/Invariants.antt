use Rattle.std.proofs.Common.{◌≡◌, map}
use Rattle.wh_terms.specs.Erase.{tm}
use Rattle.wh_step.proofs.reducing.collected.Given as goal

abbrev pub invariant-loop-term : goal.invariant-loop-term
invariant-loop-term l = map tm l.all ≡ map tm l.yielded
