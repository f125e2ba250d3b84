use Rattle.std.proofs.Common.{◌≡◌, ◌+◌}
use Rattle.wh_text.specs.Erase.{rtm}
use Rattle.wh_system_parts.specs.Tests.{arguments_of}
use Rattle.wh_system_resolve.proofs.head.arguments_of.Given as goal

abbrev pub invariant-loop-here : goal.invariant-loop-here
invariant-loop-here l = arguments_of (rtm l.here) + l.count ≡ arguments_of (rtm l.fn.left)
