use Rattle.std.proofs.Common.{◌≡◌, take}
use Rattle.wh_cert_upgrade.proofs.lists.copy_path.Given as goal

abbrev pub invariant-loop-turn : goal.invariant-loop-turn
invariant-loop-turn l = l.copy ≡ take l.turn-index l.path
