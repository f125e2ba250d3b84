-- Each monomial that is passed stands before the next.
use Rattle.std.proofs.Common.{ap, sym, subst, ◌∙◌}
use Rattle.wh_poly.specs.Polynomials.{Sorted}
use Rattle.wh_poly.specs.Erase.{sum_of}
use Rattle.wh_poly.proofs.Lists.{poly_is}
use Rattle.wh_poly.proofs.Walks.{sum_ended}
use Rattle.wh_poly.proofs.standing.is_ascending.Goals as goal

pub returns : goal.returns
returns c _ = subst Sorted (sym (poly_is c.args.p.now ∙ ap sum_of (sym c.as_slice-items.ensures)))
    (c.loop-i.invariant (subst Sorted (sym (sum_ended c.as_slice-items.result.now c.loop-i.i c.loop-i-test.false)) tt))
