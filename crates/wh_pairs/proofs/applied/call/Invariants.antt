use Rattle.std.proofs.Common.{◌≡◌, map, take}
use Rattle.wh_terms.specs.Erase.{tm}
use Rattle.wh_terms.specs.Tree.{fun, spine}
use Rattle.wh_pairs.proofs.applied.call.Given as goal

abbrev pub invariant-loop-argument : goal.invariant-loop-argument
invariant-loop-argument l = tm l.made.value ≡ spine (fun l.fn.symbol) (map tm (take l.argument-index l.argument-items))
