use Rattle.wh_access.proofs.Rows.{lists_break}
use Rattle.wh_test_terms.proofs.rank_rows.functions_break_beside_their_lists.Goals as goal

pub returns : goal.returns
returns c = lists_break
