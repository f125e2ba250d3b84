use Rattle.std.proofs.Common.{◌≡◌, ℕ, ◌<◌, [], get_or, true, false}
use Rattle.wh_sat.specs.Solving.{clause_true}
use Rattle.wh_sat_engine.proofs.models.is_model.Given as goal

abbrev pub invariant-loop-clause : goal.invariant-loop-clause
invariant-loop-clause l = (k : ℕ) → k < l.clause-index → clause_true (λ v. get_or l.values v false) (get_or l.clauses k []) ≡ true
