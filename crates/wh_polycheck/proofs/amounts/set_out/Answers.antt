use Rattle.std.proofs.Common.{rules, ◌∙◌, ap, sym}
use Rattle.std.proofs.lemmas.List.{length-set}
use Rattle.wh_poly.specs.declared.polynomial.Monomial.{out-Monomial}
use Rattle.wh_polycheck.proofs.AmountWalk.{one_more_set}
use Rattle.wh_polycheck.proofs.amounts.set_out.Goals as goal

pub loop-k-preserved : goal.loop-k-preserved
loop-k-preserved c = (
  length-set c.loop-k.sums c.loop-k.k _ ∙ c.loop-k.invariant.0,
  one_more_set c.args.items.now c.loop-k.sums c.args.base c.loop-k.k _ c.index-items-base.result c.loop-k.invariant.1 (search rules) (search rules) c.index-items-base.is
      (ap (λ m. (out-Monomial m).coefficient) (sym c.index-items-base.is)),
)
