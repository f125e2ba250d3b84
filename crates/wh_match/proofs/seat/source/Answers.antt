use Rattle.wh_terms.specs.Erase.{tms}
use Rattle.wh_terms.specs.Value.{parameters}
use Rattle.wh_terms.specs.Under.{moved}
use Rattle.wh_match.proofs.SeatLemmas.{from_there, no_bound}
use Rattle.wh_match.proofs.seat.source.Goals as goal

pub returns-in_ok-sum-in-Some : goal.returns-in_ok-sum-in-Some
returns-in_ok-sum-in-Some c =
    from_there (parameters (tms c.args.seat.now.args.now) (moved c.args.seat.now.depth)) c.args.inner c.args.number c.in-Some.outer c.in_ok-sum-in-Some.field-0
    c.if-number-inner.false (rw c.in-Some.is at c.in_ok-outer.ensures) c.in_ok-sum-in-Some.ensures

pub returns-in-None : goal.returns-in-None
returns-in-None c =
    no_bound c.args.seat.now.depth c.args.inner c.args.number (tms c.args.seat.now.args.now) c.requires c.if-number-inner.false (rw c.in-None.is at c.in_ok-outer.ensures)
