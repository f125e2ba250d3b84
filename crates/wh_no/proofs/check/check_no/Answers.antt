-- A valid certificate has as many steps as its claim, and its term has reductions of every length.
use Rattle.std.proofs.Common.{map, ap, length}
use Rattle.wh_text.specs.Erase.{rtm}
use Rattle.wh_cert.specs.Said.{said_put}
use Rattle.wh_system.specs.SystemView.{system_data}
use Rattle.wh_no.proofs.CheckLemmas.{accepted, valid_no_unbounded}
use Rattle.wh_no.proofs.check.check_no.Goals as goal

pub returns-clause-accepted : goal.returns-clause-accepted
returns-clause-accepted c =
    let cert = c.args.certificate.now in
    accepted (system_data c.args.system.now) (rtm cert.term) cert.steps cert.at (map said_put cert.puts) _ (ap length c.as_slice-steps.ensures) c.in_ok-check_claim.ensures

pub returns-clause-unbounded : goal.returns-clause-unbounded
returns-clause-unbounded c =
    let cert = c.args.certificate.now in
    valid_no_unbounded (system_data c.args.system.now) (rtm cert.term) cert.steps cert.at (map said_put cert.puts) c.is_well_made.ensures.rules c.in_ok-check_claim.ensures
