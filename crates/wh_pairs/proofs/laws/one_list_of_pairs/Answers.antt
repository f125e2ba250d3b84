use Rattle.wh_pairs.proofs.SubsumptionLaws.{one_list}
use Rattle.wh_pairs.proofs.laws.one_list_of_pairs.Goals as goal

pub returns : goal.returns
returns c = λ cs p q h k. one_list _ cs p q h k
