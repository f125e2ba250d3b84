use Rattle.std.proofs.Common.{subst}
use Rattle.wh_sat.specs.Outcomes.{IsOutcome}
use Rattle.wh_order_meeting.proofs.MeetingLemmas.{solved_never}
use Rattle.wh_order_meeting.proofs.meeting.solved.Goals as goal

pub returns-in-Unsat : goal.returns-in-Unsat
returns-in-Unsat c =
    let formula = c.formula.result.now in
    let ended = subst (IsOutcome formula.variables formula.clauses c.args.budget) c.in-Unsat.is c.in_ok-values.ensures in
    solved_never c.args.circuit c.require.new.self c.args.wire formula.clauses c.in_ok-require.ensures.gates c.in_ok-require.ensures.required c.formula.ensures.ordered c.formula.ensures.complete ended.1
