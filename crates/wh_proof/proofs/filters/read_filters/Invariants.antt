use Rattle.std.proofs.Common.{◌≡◌, map, take}
use Rattle.wh_order_inference.specs.Said.{written_filter}
use Rattle.wh_proof.proofs.filters.read_filters.Given as goal

abbrev pub invariant-loop-line : goal.invariant-loop-line
invariant-loop-line l = map written_filter l.filters ≡ map (λ line. written_filter line.filter) (take l.line-index l.lines)
