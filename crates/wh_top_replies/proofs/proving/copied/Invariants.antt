use Rattle.std.proofs.Common.{◌≡◌, take}
use Rattle.wh_top_replies.proofs.proving.copied.Given as goal

abbrev pub invariant-loop-number : goal.invariant-loop-number
invariant-loop-number l = l.list ≡ take l.number-index l.numbers
