use Rattle.std.proofs.Common.{◌≡◌, length}
use Rattle.wh_poly_space.proofs.PushLemmas.{EachAt}
use Rattle.wh_poly_blocking.proofs.NumberLemmas.{OfUses}
use Rattle.wh_poly_blocking.proofs.numbers.numbers_of_conditions.Given as goal

abbrev pub invariant-loop-uses : goal.invariant-loop-uses
invariant-loop-uses l = record {
  count : length l.made.items ≡ l.uses-index;
  each : EachAt (OfUses l.all) l.made.items;
}
