-- The value so far is that of the function applied to the arguments before.
use Rattle.std.proofs.Common.{◌++◌, [], ◌∷◌, map, length, drop}
use Rattle.wh_types.specs.Erase.{ty}
use Rattle.wh_hopoly.specs.Evaluation.{symbol}
use Rattle.wh_hopoly.specs.Outcomes.{applied_to}
use Rattle.wh_poly.specs.Erase.{poly}
use Rattle.wh_hopoly.specs.Erase.{expression, interpretations}
use Rattle.wh_hopoly.proofs.ValuedLaws.{Calling}
use Rattle.wh_hopoly.proofs.normalising.normal_call.Given as goal

abbrev pub invariant-loop-arg : goal.invariant-loop-arg
invariant-loop-arg l =
    Calling (interpretations l.symbols ++ record { kind = ty l.kind; polynomial = poly l.function } ∷ []) (map ty l.scope) (applied_to (symbol (length l.symbols)) (map expression l.args))
    (map expression (drop l.arg-index l.args)) l.value l.next l.at
