use Rattle.std.proofs.Common.{◌≡◌, Some, map, take, slice_get}
use Rattle.wh_proof.proofs.named.name_these.Given as goal

abbrev pub invariant-loop-i : goal.invariant-loop-i
invariant-loop-i g l = map (λ n. slice_get l.names n) (take l.i l.numbers) ≡ map (λ line. Some (g.L.Named.name_of line)) (take l.i l.lines)
