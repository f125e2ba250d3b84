use Rattle.wh_terms.proofs.FreshLaws.{opened_one}
use Rattle.wh_terms.proofs.laws.opening_can_be_undone.Goals as goal

pub returns : goal.returns
returns c = opened_one
