use Rattle.std.proofs.Common.{◌≡◌, take}
use Rattle.wh_terms.specs.Erase.{tms}
use Rattle.wh_terms.specs.Substitution.{acts}
use Rattle.wh_terms.specs.Under.{ups, ups_free}
use Rattle.wh_terms.proofs.walk.+act.Given as goal

abbrev pub invariant-act_each-loop-item : goal.invariant-act_each-loop-item
invariant-act_each-loop-item g l =
    tms l.results ≡ acts (ups l.depth (g.R.Replace.for_bound l.by)) (ups_free l.depth (g.R.Replace.for_free l.by)) (tms (take l.item-index l.item-items))
