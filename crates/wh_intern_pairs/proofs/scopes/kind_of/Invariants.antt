use Rattle.std.proofs.Common.{◌≡◌, ◌≤◌, drop, length}
use Rattle.wh_types.specs.Erase.{ty, tys}
use Rattle.wh_polycheck.specs.Sides.{arrows}
use Rattle.wh_intern_pairs.proofs.scopes.kind_of.Given as goal

abbrev pub invariant-loop-left : goal.invariant-loop-left
invariant-loop-left l = record {
  within : l.left ≤ length l.args;
  same : ty l.kind ≡ arrows (tys (drop l.left l.args)) (ty l.meta.result);
}

abbrev pub decreases-loop-left : goal.decreases-loop-left
decreases-loop-left l = l.left
