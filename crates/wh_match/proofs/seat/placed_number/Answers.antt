use Rattle.std.proofs.Common.{◌≡◌, ◌+◌, ap, sym, ◌∙◌, arith}
use Rattle.wh_terms.specs.Tree.{bound}
use Rattle.wh_terms.specs.Erase.{tm, tms}
use Rattle.wh_terms.specs.Value.{parameters}
use Rattle.wh_terms.specs.Under.{ups, moved}
use Rattle.wh_terms.proofs.Results.{IfOk-map}
use Rattle.wh_match.proofs.SeatLemmas.{bound_at, argument_here}
use Rattle.wh_match.proofs.seat.placed_number.Goals as goal

pub unreachable-requires : goal.unreachable-requires
unreachable-requires c =
    let (n, below, is) = bound_at c.args.seat.now.depth c.args.seat.now.args.now _ c.index-seat-count.result c.requires (omega arith) c.index-seat-count.is in
    c.in_default.not-Bound n (sym c.index-seat-count.is ∙ is)

pub returns-in-Bound : goal.returns-in-Bound
returns-in-Bound c =
    let seat = c.args.seat.now in
    IfOk-map (λ sum. sum ≡ c.in-Bound.outer + c.args.inner) (λ place. ups c.args.inner (parameters (tms seat.args.now) (moved seat.depth)) c.args.number ≡ bound place)
    c.sum.result
    (λ sum is. argument_here seat.depth c.args.inner c.args.number _ c.in-Bound.outer seat.args.now c.index-seat-count.result (omega arith) (omega arith)
    c.index-seat-count.is (ap tm (c.index-seat-count.is ∙ c.in-Bound.is)) ∙ ap bound (sym is))
    c.sum.ensures
