use Rattle.std.proofs.Common.{◌≡◌, take}
use Rattle.wh_terms.specs.Measures.{Fits, size}
use Rattle.wh_terms.specs.Sight.{LooseBelow, IsTerm}
use Rattle.wh_terms.specs.Erase.{tm, rewrite_rules}
use Rattle.wh_step.specs.Replay.{Replays}
use Rattle.wh_step.proofs.replaying.replay.Given as goal

abbrev pub invariant-loop-i : goal.invariant-loop-i
invariant-loop-i l = Replays (rewrite_rules l.rules) (take l.i l.steps) (tm l.term) (tm l.here) × Fits (tm l.here) × LooseBelow 0 (tm l.here) × IsTerm (tm l.here) × (l.total ≡ size (tm l.here))
