use Rattle.wh_system.specs.SystemView.{system_data}
use Rattle.wh_pairs.specs.Views.{pairs_data}
use Rattle.wh_cert.specs.Said.{said}
use Rattle.wh_answer.specs.declared.report.Report.TheVariants.{Rejected}
use Rattle.wh_answer.specs.declared.report.NamedRejection.TheVariants.{Syntax}
use Rattle.wh_explain.proofs.Texts.{fault_said, of_report, text_said}
use Rattle.wh_explain.proofs.explain.explained.Goals as goal

pub returns-in-Ok-clause-says : goal.returns-in-Ok-clause-says
returns-in-Ok-clause-says c =
    text_said (system_data c.args.problem.now.system) (pairs_data c.args.problem.now.pairs) c.args.bytes.now (said c.in-Ok.certificate)
    c.weighed.result c.in-Ok.ensures.read c.weighed.ensures.says

pub returns-in_ok-put_answer-in-Err-Because-clause-says : goal.returns-in_ok-put_answer-in-Err-Because-clause-says
returns-in_ok-put_answer-in-Err-Because-clause-says c =
    let at = c.in-Err-Because.fault.at in
    let fault = rw c.in-Err-Because.field-0-is at c.in-Err-Because.ensures.fault in
    fault_said (system_data c.args.problem.now.system) (pairs_data c.args.problem.now.pairs) c.args.bytes.now at c.headed.result
    fault
    (of_report (Rejected (Syntax at)) c.verdict_of.result c.headed.result c.verdict_of.ensures c.headed.ensures)
