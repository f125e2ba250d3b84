use Rattle.std.proofs.Common.{sym}
use Rattle.wh_checker_walk.proofs.walk.Walk.new.Goals as goal

pub returns : goal.returns
returns c = λ d ps cert rest is e. sym e
