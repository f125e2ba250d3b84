use Rattle.std.proofs.Common.{◌≡◌, ◌+◌, length}
use Rattle.wh_order_space.specs.Spotted.{AreSpotted}
use Rattle.wh_order_space.proofs.spots.add_spots.Given as goal

abbrev pub invariant-loop : goal.invariant-loop
invariant-loop l = record {
  spotted : AreSpotted l.symbols l.marked l.scopes l.first_bits l.initial.spots.items → AreSpotted l.symbols l.marked l.scopes l.first_bits l.spots.items;
  count : length l.spots.items ≡ length l.initial.spots.items + l.counter;
}
