use Rattle.wh_types.specs.Erase.{ty}
use Rattle.wh_pairs.proofs.ListLemmas.{same_at}
use Rattle.wh_pairs_making.proofs.subsumption.same_types.Goals as goal

pub returns-then-not-same_type : goal.returns-then-not-same_type
returns-then-not-same_type c = (
  λ no_way. cc,
  λ e. c.if-not-same_type.ensures.1 (same_at ty c.args.a.now c.args.b.now c.loop-i.i c.index-a-i.result c.index-b-i.result e c.loop-i-test.true c.index-a-i.is c.index-b-i.is),
)
