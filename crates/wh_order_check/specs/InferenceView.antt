-- The data that the inferences of a node stand for.
use Rattle.std.specs.Prelude.{map}
use Rattle.wh_reduction_pairs.specs.ReductionPair.{Evidence}
use Rattle.wh_order_inference.specs.Inferences.{Inference}
use Rattle.wh_order_inference.specs.Said.{inference}
use Rattle.wh_order_check.specs.declared.inferred.Inferred.{Inferred}

-- the lines of inferences that an `Inferred` stands for
abbrev pub inferred_data : Inferred → Evidence Inference
inferred_data e = record { of_rules = map inference e.rules.now; of_pairs = map inference e.pairs.now; drop = e.drop.now }
