use Rattle.std.proofs.Common.{◌≡◌, map, take}
use Rattle.wh_types.specs.Erase.{tys}
use Rattle.wh_hopoly.specs.Erase.{interpretations}
use Rattle.wh_hopoly.specs.Evaluation.{Interpretation}
use Rattle.wh_test_finders.proofs.readings.symbols_of.Given as goal

abbrev pub invariant-loop-i : goal.invariant-loop-i
invariant-loop-i l = map (λ (s : Interpretation). s.kind) (interpretations l.symbols.items) ≡ tys (take l.i l.kinds)
