use Rattle.std.proofs.Common.{◌≡◌, ◌+◌, ◌<◌, length}
use Rattle.wh_sat.specs.Solving.{Solves}
use Rattle.wh_sat.specs.State.{clauses_of}
use Rattle.wh_poly_blocking.specs.Sizes.{value_of}
use Rattle.wh_find_order.specs.Encodings.{IsBlocking}
use Rattle.wh_find_order.proofs.blocking.search.Given as goal

abbrev pub invariant-guesses : goal.invariant-guesses
invariant-guesses l = record {
  blocking : IsBlocking l.encoding l.learner;
  solves : Solves (value_of l.values.items) (clauses_of l.learner);
  room : 0 < l.learner.left;
  count : length (clauses_of l.learner) + l.learner.left ≡ l.fn.budget;
}

abbrev pub decreases-guesses : goal.decreases-guesses
decreases-guesses l = l.learner.left
