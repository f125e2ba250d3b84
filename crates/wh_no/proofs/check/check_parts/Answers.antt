-- The term is the first part.
use Rattle.std.proofs.Common.{map}
use Rattle.wh_text.specs.Erase.{rtm}
use Rattle.wh_cert.specs.Said.{said_put, said_no}
use Rattle.wh_system.specs.SystemView.{system_data}
use Rattle.wh_no.specs.Faults.{IsTermFault, IsFirstFault, IsValidNo}
use Rattle.wh_no.proofs.CheckLemmas.{term_fault, passed_on}
use Rattle.wh_no.proofs.check.check_parts.Goals as goal

pub returns-in_err-term : goal.returns-in_err-term
returns-in_err-term c =
    let d = system_data c.args.system.now in
    let cert = c.args.certificate.now in
    passed_on c.from_residual.result c.in_err-term.field-0.0 (λ _. IsValidNo d (said_no cert)) _ (IsTermFault d (rtm cert.term)) (IsFirstFault d (said_no cert))
    c.from_residual.ensures.1 c.in_err-term.ensures (term_fault d (rtm cert.term) cert.steps cert.at (map said_put cert.puts))
