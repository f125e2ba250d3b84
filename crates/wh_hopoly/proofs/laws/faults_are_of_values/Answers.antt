-- The value of a part is one of the evaluation.
use Rattle.wh_hopoly.proofs.PartLaws.{part_is_value}
use Rattle.wh_hopoly.proofs.laws.faults_are_of_values.Goals as goal

pub returns-clause-overflow : goal.returns-clause-overflow
returns-clause-overflow c = λ S Γ e k h. (h.0, part_is_value S Γ e k h.0 h.1, h.2)

pub returns-clause-large : goal.returns-clause-large
returns-clause-large c = λ S Γ e k h. (h.0, part_is_value S Γ e k h.0 h.1, h.2)
