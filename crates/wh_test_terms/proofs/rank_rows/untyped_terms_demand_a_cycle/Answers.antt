use Rattle.wh_access.proofs.Rows.{untyped_cycle}
use Rattle.wh_test_terms.proofs.rank_rows.untyped_terms_demand_a_cycle.Goals as goal

pub returns : goal.returns
returns c = untyped_cycle
