-- By induction on the nodes: each adds one number to a list of the node below, or of one of the nodes below.
use Rattle.wh_law_measures.proofs.ShortLists.{measures_short}
use Rattle.wh_law_measures.proofs.measures.measures_have_short_lists.Goals as goal

pub returns : goal.returns
returns k S rules pairs sets nodes fs f c good are found = measures_short S rules pairs are f found c good
