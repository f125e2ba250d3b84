use Rattle.std.proofs.Common.{not, get_or}
use Rattle.wh_sat_trail.proofs.Looking.{true_not_false, open_not_false}
use Rattle.wh_sat_trail.specs.Watch.{nothing}
use Rattle.wh_sat_trail.proofs.Guarding.{member_at}
use Rattle.wh_sat_trail.proofs.assignment.Assignment.candidate.Goals as goal

pub returns-in-Some-true : goal.returns-in-Some-true
returns-in-Some-true c =
    let n = c.loop-literal.literal-index in
    let h = rw c.in-Some-true.field-0-test at c.in-Some-true.ensures in
    record {
      in_clause = member_at c.args.clause.now n nothing c.loop-literal-test.true;
      below = c.requires n nothing c.loop-literal-test.true;
      possible = λ f. true_not_false _ (get_or c.args.clause.now n nothing).positive h f;
    }

pub returns-in-None : goal.returns-in-None
returns-in-None c =
    let n = c.loop-literal.literal-index in
    record {
      in_clause = member_at c.args.clause.now n nothing c.loop-literal-test.true;
      below = c.requires n nothing c.loop-literal-test.true;
      possible = λ f. open_not_false _ (not (get_or c.args.clause.now n nothing).positive) c.in-None.ensures f;
    }
