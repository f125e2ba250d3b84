use Rattle.std.proofs.Common.{◌↔◌, drop}
use Rattle.wh_order_check.proofs.PlaceLemmas.{AreWritten}
use Rattle.wh_order_check.proofs.proper.are_increasing.Given as goal

abbrev pub invariant-loop-place : goal.invariant-loop-place
invariant-loop-place l = AreWritten l.last l.arity (drop l.place-index l.places) ↔ AreWritten 0 l.arity l.places
