use Rattle.wh_gen.proofs.PairCount.{few_pairs}
use Rattle.wh_gen.proofs.laws.generated_systems_have_few_pairs.Goals as goal

pub returns : goal.returns
returns c = few_pairs
