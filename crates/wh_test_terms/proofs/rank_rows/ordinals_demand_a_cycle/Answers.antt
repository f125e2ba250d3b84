use Rattle.wh_access.proofs.Rows.{ordinal_cycle}
use Rattle.wh_test_terms.proofs.rank_rows.ordinals_demand_a_cycle.Goals as goal

pub returns : goal.returns
returns c = ordinal_cycle
