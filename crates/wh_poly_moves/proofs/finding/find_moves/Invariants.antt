use Rattle.std.proofs.Common.{◌≡◌, ◌<◌, ℕ, slice_index}
use Rattle.wh_poly_moves.specs.Flows.{IsFlow}
use Rattle.wh_poly_moves.proofs.finding.find_moves.Given as goal

abbrev pub invariant-loop-root : goal.invariant-loop-root
invariant-loop-root l = record {
  flow : IsFlow l.givers l.takers l.flow;
  filled : (j : ℕ) → j < l.root → slice_index l.flow.want.items j ≡ 0;
}
