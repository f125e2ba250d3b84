use Rattle.std.proofs.Common.{◌≡◌, take, map}
use Rattle.wh_terms.specs.Erase.{tm}
use Rattle.wh_pairs_calls.specs.Views.{trees}
use Rattle.wh_pairs_making.proofs.candidate.left_arguments.Given as goal

abbrev pub invariant-loop-argument : goal.invariant-loop-argument
invariant-loop-argument l = map tm l.left ≡ trees (take l.argument-index l.arguments)
