use Rattle.std.proofs.Common.{ℕ, ◌<◌}
use Rattle.wh_access.specs.Sources.{sort_at}
use Rattle.wh_access.specs.Tables.{LeadsStrictlyIn}
use Rattle.wh_access.proofs.sources.strict_return.Given as goal

abbrev pub invariant-loop-k : goal.invariant-loop-k
invariant-loop-k l = (j : ℕ) → j < l.k → LeadsStrictlyIn l.demands l.goal (sort_at l.found j) → ⊥
