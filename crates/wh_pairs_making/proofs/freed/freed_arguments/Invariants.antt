use Rattle.std.proofs.Common.{◌≡◌, take, map}
use Rattle.wh_terms.specs.Tree.{free}
use Rattle.wh_terms.specs.Erase.{tm}
use Rattle.wh_terms.specs.Scope.{scope}
use Rattle.wh_terms.specs.Substitution.{act}
use Rattle.wh_pairs.specs.Candidates.{freed}
use Rattle.wh_pairs_making.proofs.freed.freed_arguments.Given as goal

abbrev pub invariant-loop-argument : goal.invariant-loop-argument
invariant-loop-argument l =
    map tm l.results ≡ map (λ t. act (freed l.by.first (scope l.by.binders.now)) free (tm t.now)) (take l.argument-index l.arguments)
