use Rattle.wh_system.specs.SystemView.{system_data}
use Rattle.wh_pairs.specs.Views.{pairs_data}
use Rattle.wh_cert.specs.Said.{said}
use Rattle.wh_top_replies.proofs.Causes.{reason_there}
use Rattle.wh_top_replies.proofs.ProofText.{proof_found, loop_found, begins_if_found}
use Rattle.wh_top_replies.proofs.proving.found_text.Goals as goal

pub name_cause-requires : goal.name_cause-requires
name_cause-requires c =
    let d = system_data c.args.problem.now.system in
    let is = rw c.in-Maybe.is at c.in_ok-certificate.ensures in
    reason_there d (pairs_data c.args.problem.now.pairs) c.args.options.now c.in-Maybe.cause c.is_well_made.ensures is

pub returns-in-Yes-clause-found : goal.returns-in-Yes-clause-found
returns-in-Yes-clause-found c =
    let d = system_data c.args.problem.now.system in
    let ps = pairs_data c.args.problem.now.pairs in
    let is = rw c.in-Yes.is at c.in_ok-certificate.ensures in
    proof_found d ps c.args.options.now (said c.in-Yes.certificate) c.certificate_text.result is c.certificate_text.ensures.text

pub returns-in-Yes-clause-begins : goal.returns-in-Yes-clause-begins
returns-in-Yes-clause-begins c =
    let d = system_data c.args.problem.now.system in
    let ps = pairs_data c.args.problem.now.pairs in
    let is = rw c.in-Yes.is at c.in_ok-certificate.ensures in
    begins_if_found d ps c.args.options.now c.certificate_text.result
    (proof_found d ps c.args.options.now (said c.in-Yes.certificate) c.certificate_text.result is c.certificate_text.ensures.text)

pub returns-in-No-clause-found : goal.returns-in-No-clause-found
returns-in-No-clause-found c =
    let d = system_data c.args.problem.now.system in
    let ps = pairs_data c.args.problem.now.pairs in
    let is = rw c.in-No.is at c.in_ok-certificate.ensures in
    loop_found d ps c.args.options.now (said c.in-No.certificate) c.certificate_text-in-No.result is c.certificate_text-in-No.ensures.text

pub returns-in-No-clause-begins : goal.returns-in-No-clause-begins
returns-in-No-clause-begins c =
    let d = system_data c.args.problem.now.system in
    let ps = pairs_data c.args.problem.now.pairs in
    let is = rw c.in-No.is at c.in_ok-certificate.ensures in
    begins_if_found d ps c.args.options.now c.certificate_text-in-No.result
    (loop_found d ps c.args.options.now (said c.in-No.certificate) c.certificate_text-in-No.result is c.certificate_text-in-No.ensures.text)
