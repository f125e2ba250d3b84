use Rattle.std.proofs.Common.{ℕ, ◌<◌}
use Rattle.wh_poly_ranges.specs.Out.{IsOut}
use Rattle.wh_poly_ranges.proofs.search.none_is_strict.Given as goal

abbrev pub invariant-loop-strict : goal.invariant-loop-strict
invariant-loop-strict l = (i : ℕ) → i < l.strict → IsOut l.task i l.ranges
