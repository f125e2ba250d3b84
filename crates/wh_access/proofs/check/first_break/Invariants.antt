use Rattle.std.proofs.Common.{ℕ, ◌<◌}
use Rattle.wh_terms.specs.Sight.{Occurs}
use Rattle.wh_terms.specs.Erase.{symbols, tm}
use Rattle.wh_step_laws.specs.Ranks.{rank_of}
use Rattle.wh_access.specs.Passing.{Passes}
use Rattle.wh_access.proofs.check.first_break.Given as goal

abbrev pub invariant-loop-meta : goal.invariant-loop-meta
invariant-loop-meta l = (y : ℕ) → y < l.meta → Occurs y (tm l.rule.right) → Passes (symbols l.signature) (rank_of l.ranks) (tm l.rule.left) y
