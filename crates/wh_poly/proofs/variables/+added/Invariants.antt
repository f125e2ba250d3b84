use Rattle.std.proofs.Common.{◌≤◌}
use Rattle.wh_types.specs.Erase.{ty}
use Rattle.wh_poly.specs.Added.{added, added_weight}
use Rattle.wh_poly.specs.Erase.{list}
use Rattle.wh_poly.proofs.AddedLaws.{Adding}
use Rattle.wh_poly.proofs.variables.+added.Given as goal

abbrev pub decreases-added : goal.decreases-added
decreases-added l = added_weight (ty l.kind.now)

abbrev pub invariant-loop-here : goal.invariant-loop-here
invariant-loop-here l = record {
  adding : Adding (added (ty l.kind) l.count l.first) (list l.out) (ty l.here) l.count l.x;
  less : added_weight (ty l.here) ≤ added_weight (ty l.kind);
}
