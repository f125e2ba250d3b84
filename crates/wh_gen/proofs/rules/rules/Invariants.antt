use Rattle.std.proofs.Common.{◌≡◌, map}
use Rattle.wh_system_parts.specs.Erase.{rrule}
use Rattle.wh_gen.specs.RawFamily.{raw_rules}
use Rattle.wh_gen.proofs.rules.rules.Given as goal

abbrev pub invariant-loop-number : goal.invariant-loop-number
invariant-loop-number l = map rrule l.rules ≡ raw_rules l.number
