-- Faults of nodes that are found behind polynomials that are normal, or behind filters that are proper (ours).
use Rattle.std.specs.Prelude.{List}
use Rattle.wh_reduction_pairs.specs.TaskData.{TaskData}
use Rattle.wh_reduction_pairs.specs.ReductionPair.{Evidence}
use Rattle.wh_hopoly.specs.Moves.{Transfer}
use Rattle.wh_polycheck.specs.Readings.{ReadingsData, AreNormal}
use Rattle.wh_polycheck.specs.Small.{with_limits}
use Rattle.wh_poly_covering.specs.CoveringFaults.{IsFirstCoveringFault}
use Rattle.wh_poly_covering.specs.declared.fault.CoveringFault.{CoveringFault}
use Rattle.wh_order_inference.specs.Inferences.{Inference}
use Rattle.wh_order_node.specs.Filterings.{FilteringData}
use Rattle.wh_order_check.specs.OrderingFaults.{AreProperFilters, IsFirstOrderingFault}
use Rattle.wh_order_check.specs.declared.fault.OrderingFault.{OrderingFault}

-- where this is wrong first with a node of interpretations, its polynomials are normal
abbrev pub LeavesNormal : CoveringFault → Type 0
LeavesNormal f = (T : TaskData) (R : ReadingsData) (E : Evidence (List Transfer)) → IsFirstCoveringFault with_limits T R E f
    → AreNormal T.symbols T.rules R

-- where this is wrong first with a node of a path order, its filters are proper
abbrev pub LeavesProper : OrderingFault → Type 0
LeavesProper f = (T : TaskData) (D : FilteringData) (E : Evidence Inference) → IsFirstOrderingFault T D E f → AreProperFilters T D
