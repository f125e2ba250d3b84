use Rattle.wh_access.proofs.Rows.{maps_pass}
use Rattle.wh_test_terms.proofs.rank_rows.maps_pass_under_equal_ranks.Goals as goal

pub returns : goal.returns
returns c = maps_pass
