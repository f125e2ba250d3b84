-- The data that the lines of moves of a node stand for.
use Rattle.std.specs.Prelude.{List, map}
use Rattle.wh_reduction_pairs.specs.ReductionPair as reduction
use Rattle.wh_hopoly.specs.Erase.{transfers}
use Rattle.wh_hopoly.specs.Moves.{Transfer}
use Rattle.wh_poly_covering.specs.declared.evidence.Evidence as code

-- the lines of moves that an `Evidence` stands for
abbrev pub evidence_data : code.Evidence → reduction.Evidence (List Transfer)
evidence_data e = record { of_rules = map transfers e.rules.now; of_pairs = map transfers e.pairs.now; drop = e.drop.now }
