use Rattle.std.proofs.Common.{map, ap, sym, ◌∙◌}
use Rattle.wh_pairs.specs.PairData.{within}
use Rattle.wh_pairs.proofs.ConditionLemmas.{with_known}
use Rattle.wh_pairs_calls.proofs.conditions.with_condition.Goals as goal

pub returns-then-eq : goal.returns-then-eq
returns-then-eq c =
    ap (map within) c.loop-i.invariant.0
    ∙ sym (with_known (within c.args.added) c.args.conditions.now c.loop-i.i (record { meta = 0; place = 0 }) c.loop-i-test.true (cc) (cc))
    ∙ sym c.loop-i.invariant.1
