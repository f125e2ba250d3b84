use Rattle.std.proofs.Common.{◌≡◌, take}
use Rattle.wh_terms.specs.Tree.{free}
use Rattle.wh_terms.specs.Erase.{tms}
use Rattle.wh_terms.specs.Scope.{scope}
use Rattle.wh_terms.specs.Substitution.{acts}
use Rattle.wh_terms.specs.Under.{ups, ups_free}
use Rattle.wh_pairs.specs.Candidates.{freed}
use Rattle.wh_pairs_making.proofs.freed.+freed.Given as goal

abbrev pub invariant-freed_each-loop-item : goal.invariant-freed_each-loop-item
invariant-freed_each-loop-item l =
    tms l.results ≡ acts (ups l.depth (freed l.by.first (scope l.by.binders.now))) (ups_free l.depth free) (tms (take l.item-index l.item-items))
