use Rattle.std.proofs.Common.{ℕ, false, get_or}
use Rattle.wh_find_subterm.proofs.ReadLemmas.{before_more}
use Rattle.wh_find_subterm.proofs.reading.first_true.Goals as goal

pub loop-place-preserved : goal.loop-place-preserved
loop-place-preserved c =
    before_more (λ (x : ℕ). get_or c.args.values.now x false) c.args.first c.args.count c.loop-place.place c.loop-place-test.true c.loop-place.invariant c.if-values-first.false
