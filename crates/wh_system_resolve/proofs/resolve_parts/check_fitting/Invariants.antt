use Rattle.std.proofs.Common.{◌≡◌}
use Rattle.wh_types.specs.Erase.{tys}
use Rattle.wh_text.specs.Erase.{rtms}
use Rattle.wh_system_parts.specs.Faults.{first_fault}
use Rattle.wh_system_resolve.specs.InScope.{types_of}
use Rattle.wh_system_resolve.specs.Resolving.{fitting_tests}
use Rattle.wh_system_resolve.proofs.FittingLemmas.{fitting_left}
use Rattle.wh_system_resolve.proofs.resolve_parts.check_fitting.Given as goal

abbrev pub invariant-loop-i : goal.invariant-loop-i
invariant-loop-i l = first_fault (fitting_tests (types_of l.given) (rtms l.items) (tys l.wanted)) ≡ fitting_left l.given l.items l.wanted l.i
