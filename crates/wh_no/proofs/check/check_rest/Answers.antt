-- The steps lead to the last term.
use Rattle.std.proofs.Common.{map, subst₂}
use Rattle.wh_terms.specs.Erase.{tm, rewrite_rules}
use Rattle.wh_text.specs.Erase.{rtm}
use Rattle.wh_cert.specs.Said.{said_put, said_no}
use Rattle.wh_system.specs.SystemView.{system_data}
use Rattle.wh_no.specs.Faults.{Arrive, IsStepFault, IsFirstFault, IsValidNo}
use Rattle.wh_no.proofs.CheckLemmas.{term_shut, term_plain, step_fault, passed_on}
use Rattle.wh_no.proofs.check.check_rest.Goals as goal

pub check_steps-requires-clause-shut : goal.check_steps-requires-clause-shut
check_steps-requires-clause-shut c = term_shut (system_data c.args.system.now) (rtm c.args.certificate.now.term) (tm c.args.term.now) c.requires.means

pub check_steps-requires-clause-plain : goal.check_steps-requires-clause-plain
check_steps-requires-clause-plain c = term_plain (system_data c.args.system.now) (rtm c.args.certificate.now.term) (tm c.args.term.now) c.requires.means

pub returns-in_err-last : goal.returns-in_err-last
returns-in_err-last c =
    let d = system_data c.args.system.now in
    let cert = c.args.certificate.now in
    let t = tm c.args.term.now in
    passed_on c.from_residual.result c.in_err-last.field-0.0 (λ _. IsValidNo d (said_no cert)) _ (IsStepFault (rewrite_rules c.rules.result.now) c.as_slice.result.now t) (IsFirstFault d (said_no cert))
    c.from_residual.ensures.1 c.in_err-last.ensures
    (λ f h. step_fault d (rtm cert.term) t cert.steps cert.at (map said_put cert.puts) f c.requires.means (subst₂ (λ rules steps. IsStepFault rules steps t f) c.rules.ensures c.as_slice.ensures h))

pub check_end-requires-clause-arrives : goal.check_end-requires-clause-arrives
check_end-requires-clause-arrives c =
    subst₂ (λ rules steps. Arrive rules steps (tm c.args.term.now) (tm c.in_ok-last.last)) c.rules.ensures c.as_slice.ensures c.in_ok-last.ensures
