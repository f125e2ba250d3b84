use Rattle.wh_circuit.proofs.Carrying.{values_are_unique_law}
use Rattle.wh_circuit.proofs.laws.values_are_unique.Goals as goal

pub returns : goal.returns
returns c = values_are_unique_law
