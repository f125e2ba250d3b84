use Rattle.wh_gen.proofs.PairCount.{length-rules}
use Rattle.wh_gen.proofs.laws.generated_systems_have_two_rules_each.Goals as goal

pub returns : goal.returns
returns c = length-rules
