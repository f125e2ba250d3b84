use Rattle.wh_tell_nodes.proofs.Before.{normal_before}
use Rattle.wh_tell_nodes.proofs.values.comes_later.Goals as goal

pub returns-in_default : goal.returns-in_default
returns-in_default c = λ _. normal_before c.args.fault.now c.in_default.not-BadPolynomial
