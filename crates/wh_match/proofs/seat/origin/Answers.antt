use Rattle.std.proofs.Common.{◌≡◌, sym, ◌∙◌}
use Rattle.wh_terms.specs.declared.term.Term.TheVariants.{Bound}
use Rattle.wh_match.proofs.SeatLemmas.{misses_more}
use Rattle.wh_match.proofs.seat.origin.Goals as goal
use Rattle.wh_match.proofs.seat.origin.Goals.{in-Bound+else-outer-number, in_default}

pub loop-i-preserved : goal.loop-i-preserved
loop-i-preserved c =
    elim c.match-arg.branch [
      | in-Bound+else-outer-number w ↦
          misses_more c.args.number c.args.seat.now.args.now c.loop-i.i c.arg-item.result c.loop-i.invariant c.loop-i-test.true c.arg-item.is
          (λ m is same. w.if-outer-number.false (let named : Bound w.in-Bound.outer ≡ Bound m = sym w.in-Bound.is ∙ is in cc))
      | in_default w ↦
          misses_more c.args.number c.args.seat.now.args.now c.loop-i.i c.arg-item.result c.loop-i.invariant c.loop-i-test.true c.arg-item.is
          (λ m is same. w.in_default.not-Bound m is)
    ]
