use Rattle.std.proofs.Common.{◌≡◌, ℕ, List, map, take}
use Rattle.wh_proof.proofs.named.name_all.Given as goal

abbrev pub invariant-loop-i : goal.invariant-loop-i
invariant-loop-i g l = map g.L.Named.name_of (take l.i l.lines) ≡ map (λ (name : List ℕ). name) (take l.i l.names)
