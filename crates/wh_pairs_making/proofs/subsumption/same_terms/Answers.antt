use Rattle.std.proofs.Common.{map, ap, sym, ◌∙◌}
use Rattle.wh_terms.specs.Erase.{tm}
use Rattle.wh_pairs.proofs.ListLemmas.{same_at}
use Rattle.wh_pairs_making.proofs.subsumption.same_terms.Goals as goal

pub returns-then-not-same : goal.returns-then-not-same
returns-then-not-same c = (
  λ no_way. cc,
  λ e. c.if-not-same.ensures.1 (same_at tm c.as_slice-items.result.now c.as_slice-others.result.now c.loop-i.i c.index-items-i.result c.index-others-i.result
      (ap (map tm) c.as_slice-items.ensures ∙ e ∙ sym (ap (map tm) c.as_slice-others.ensures)) c.loop-i-test.true c.index-items-i.is c.index-others-i.is),
)
