-- By induction on the length, on the number at the head, and on the end of the rest.
use Rattle.wh_law_measures.proofs.ShortLists.{lists_end}
use Rattle.wh_law_measures.proofs.measures.short_lists_end.Goals as goal

pub returns : goal.returns
returns k n l = lists_end n l
