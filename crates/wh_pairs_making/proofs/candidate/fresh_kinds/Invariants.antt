use Rattle.std.proofs.Common.{◌≡◌, ◌++◌, ◌-◌, ◌≤◌, take, drop, max}
use Rattle.wh_types.specs.Erase.{ty}
use Rattle.wh_types.specs.Ty.{arguments}
use Rattle.wh_terms.specs.Kinds.{kinds_of}
use Rattle.wh_pairs_making.proofs.candidate.fresh_kinds.Given as goal

abbrev pub invariant-loop-place : goal.invariant-loop-place
invariant-loop-place l =
    (kinds_of l.kinds.items ≡ kinds_of l.call.binders.items ++ take (l.place - l.given) (drop l.given (arguments (ty l.kind))))
    × (l.place ≤ max l.given l.call.need)
