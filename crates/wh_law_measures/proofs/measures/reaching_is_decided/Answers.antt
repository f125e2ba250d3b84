-- By induction on the end of the steps of the arguments, which have finitely many.
use Rattle.wh_law_measures.proofs.Reached.{reach_some_decided}
use Rattle.wh_law_measures.proofs.measures.reaching_is_decided.Goals as goal

pub returns : goal.returns
returns k S rules pairs set c made typed patterns good = reach_some_decided S rules pairs made typed patterns set c good
