-- With arguments it steps in these alone.
use Rattle.wh_step_laws.proofs.SystemComputable.{computable-symbol}
use Rattle.wh_step_laws.proofs.computability.symbols_without_rules_are_computable.Goals as goal

pub returns : goal.returns
returns c S rules rank f a w k e n = computable-symbol w k rank f a e n
