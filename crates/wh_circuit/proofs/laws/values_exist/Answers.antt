use Rattle.wh_circuit.proofs.Carrying.{values_exist_law}
use Rattle.wh_circuit.proofs.laws.values_exist.Goals as goal

pub returns : goal.returns
returns c = values_exist_law
