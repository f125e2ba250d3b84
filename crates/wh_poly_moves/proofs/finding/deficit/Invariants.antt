use Rattle.std.proofs.Common.{◌≡◌, ◌<◌, ℕ, slice_index}
use Rattle.wh_poly.specs.Erase.{sum_of}
use Rattle.wh_poly_moves.specs.Found.{NoneCovers}
use Rattle.wh_poly_moves.specs.Flows.{IsFlow}
use Rattle.wh_poly_moves.proofs.finding.deficit.Given as goal

abbrev pub invariant-loop-root : goal.invariant-loop-root
invariant-loop-root l = record {
  flow : IsFlow l.givers l.takers l.flow;
  filled : l.short ≡ 0 → (j : ℕ) → j < l.root → slice_index l.flow.want.items j ≡ 0;
  not_filled : 0 < l.short → NoneCovers (sum_of l.givers) (sum_of l.takers);
}
