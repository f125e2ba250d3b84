use Rattle.std.proofs.Common.{arith, ap, length}
use Rattle.std.proofs.lemmas.Bool.{OnTrue_from}
use Rattle.wh_sat_listed.proofs.Shortness.{few_all, few_more}
use Rattle.wh_sat_listed.proofs.solving.is_short.Goals as goal

pub loop-entry-preserved : goal.loop-entry-preserved
loop-entry-preserved c =
    few_more c.args.variables c.args.entries.now c.loop-entry.entry-index c.entry-item.result c.loop-entry.invariant
    (omega (arith, ap length c.as_slice.ensures)) c.loop-entry-test.true c.entry-item.is

pub returns-clause-hints : goal.returns-clause-hints
returns-clause-hints c =
    OnTrue_from _ _ (λ _. few_all c.args.variables c.args.entries.now c.loop-entry.entry-index c.loop-entry.invariant (omega arith))
