use Rattle.wh_access.proofs.Rows.{lists_pass}
use Rattle.wh_test_terms.proofs.rank_rows.functions_pass_below_their_lists.Goals as goal

pub returns : goal.returns
returns c = lists_pass
