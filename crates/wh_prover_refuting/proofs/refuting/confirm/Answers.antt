use Rattle.std.proofs.Common.{arith}
use Rattle.wh_refute.proofs.RefuteLaws.{refutations_have_no_fault_law}
use Rattle.wh_prover_refuting.proofs.Verdicts.{because_of}
use Rattle.wh_prover_refuting.proofs.refuting.confirm.Goals as goal

pub check_refutation-requires-clause-hints : goal.check_refutation-requires-clause-hints
check_refutation-requires-clause-hints c = λ e h. omega (arith, c.requires.hints e h)

pub unreachable-requires : goal.unreachable-requires
unreachable-requires c =
    let fault = because_of c.in-Err-Because.field-0 c.in-Err-Because.field-0-0 _ c.in-Err-Because.field-0-is c.in-Err-Because.ensures.fault in
    refutations_have_no_fault_law c.args.formula.now.variables c.args.formula.now.clauses c.args.list.now c.requires.good
    c.in-Err-Because.field-0-0 fault
