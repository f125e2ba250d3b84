use Rattle.std.proofs.Common.{◌≡◌, ◌+◌, ◌<◌, length}
use Rattle.wh_sat.specs.Solving.{Solves}
use Rattle.wh_sat.specs.State.{clauses_of}
use Rattle.wh_poly_blocking.specs.Encodings.{IsBlocking, IsWritten}
use Rattle.wh_poly_blocking.specs.Sizes.{value_of}
use Rattle.wh_poly_blocking.proofs.blocking.search.Given as goal

abbrev pub invariant-guesses : goal.invariant-guesses
invariant-guesses l = record {
  written : IsWritten l.encoding l.written;
  blocking : IsBlocking l.encoding l.learner;
  solves : Solves (value_of l.written.values.items) (clauses_of l.learner);
  room : 0 < l.learner.left;
  count : length (clauses_of l.learner) + l.learner.left ≡ length (clauses_of l.initial.learner) + l.initial.learner.left;
}

abbrev pub decreases-guesses : goal.decreases-guesses
decreases-guesses l = l.learner.left
