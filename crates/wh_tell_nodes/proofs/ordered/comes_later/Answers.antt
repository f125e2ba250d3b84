use Rattle.wh_tell_nodes.proofs.Before.{proper_before}
use Rattle.wh_tell_nodes.proofs.ordered.comes_later.Goals as goal

pub returns-in_default : goal.returns-in_default
returns-in_default c = λ _. proper_before c.args.fault.now c.in_default.not-BadFilter
