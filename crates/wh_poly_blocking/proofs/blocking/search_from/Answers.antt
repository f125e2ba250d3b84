use Rattle.std.proofs.Common.{◌≡◌, ◌+◌, ℕ, length, subst, arith}
use Rattle.wh_sat.specs.State.{clauses_of}
use Rattle.wh_poly_blocking.specs.Answers.{IsAnswer}
use Rattle.wh_poly_blocking.specs.Encodings.{system_in, task_in}
use Rattle.wh_poly_blocking.proofs.blocking.search_from.Goals as goal

pub search-requires-clause-solves : goal.search-requires-clause-solves
search-requires-clause-solves c = λ k within. absurd (omega (arith, within, c.in_ok-learner.ensures.none))

pub returns : goal.returns
returns c =
    let e = c.args.encoding.now in
    let l = c.in_ok-learner.learner in
    let all : length (clauses_of l) + l.left ≡ c.args.budget = omega (arith, c.in_ok-learner.ensures.none, c.in_ok-learner.ensures.left) in
    subst (λ (n : ℕ). IsAnswer (system_in e) (task_in e).pairs (task_in e).set n c.in_ok-found.found) all c.in_ok-found.ensures
