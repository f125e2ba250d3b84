-- Rule by rule: what names stand for is a function.
use Rattle.wh_system_making.proofs.SystemMade.{one_system}
use Rattle.wh_system_making.proofs.laws.parts_say_one_system.Goals as goal

pub returns : goal.returns
returns c p s t a b = one_system p s t a b
