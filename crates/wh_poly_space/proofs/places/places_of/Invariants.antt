use Rattle.std.proofs.Common.{◌≡◌, length}
use Rattle.wh_types.specs.Erase.{tys}
use Rattle.wh_poly_space.specs.Spots.{IsPlace, IsWalk}
use Rattle.wh_poly_space.proofs.PushLemmas.{EachAt}
use Rattle.wh_poly_space.proofs.places.places_of.Given as goal

abbrev pub invariant-loop-kind : goal.invariant-loop-kind
invariant-loop-kind l = record {
  walk : IsWalk (tys l.scope) l.kind-index l.walk;
  count : length l.places.items ≡ l.kind-index;
  each : EachAt (IsPlace (tys l.scope)) l.places.items;
}
