-- What is put, and the place.
use Rattle.std.proofs.Common.{map, sym, subst}
use Rattle.wh_terms.specs.Erase.{tm}
use Rattle.wh_text.specs.Erase.{rtm}
use Rattle.wh_cert.specs.Said.{said_put, said_no}
use Rattle.wh_system.specs.SystemView.{system_data}
use Rattle.wh_no.specs.Entry.{entry_puts}
use Rattle.wh_no.specs.Valid.{HoldsInstance}
use Rattle.wh_no.specs.Faults.{AreRight, IsPutFault, IsPlaceFault, IsFirstFault, IsValidNo}
use Rattle.wh_no.proofs.CheckLemmas.{term_plain, term_shut, last_fits, last_shut, values_shut, valid_claim, put_fault, place_fault, passed_on, told_on}
use Rattle.wh_no.proofs.InstanceLemmas.{AreShut}
use Rattle.wh_no.proofs.NumberLemmas.{unused_low}
use Rattle.wh_no.proofs.check.check_end.Goals as goal

pub returns-in_err-entries : goal.returns-in_err-entries
returns-in_err-entries c =
    let d = system_data c.args.system.now in
    let cert = c.args.certificate.now in
    let t = tm c.args.term.now in
    let u = tm c.args.last.now in
    passed_on c.from_residual.result c.in_err-entries.field-0.0 (λ _. IsValidNo d (said_no cert)) _ (IsPutFault d (map said_put c.as_slice.result.now)) (IsFirstFault d (said_no cert))
    c.from_residual.ensures.1 c.in_err-entries.ensures
    (λ f h. put_fault d (rtm cert.term) t u cert.steps cert.at (map said_put cert.puts) f c.requires.means c.requires.arrives (subst (λ ps. IsPutFault d (map said_put ps) f) c.as_slice.ensures h))

pub check_instance-requires-clause-plain : goal.check_instance-requires-clause-plain
check_instance-requires-clause-plain c = term_plain (system_data c.args.system.now) (rtm c.args.certificate.now.term) (tm c.args.term.now) c.requires.means

pub check_instance-requires-clause-low : goal.check_instance-requires-clause-low
check_instance-requires-clause-low c = unused_low _ (rtm c.args.certificate.now.term) (tm c.args.term.now) c.requires.cert.parts.0 c.requires.means.means.named

pub check_instance-requires-clause-shut : goal.check_instance-requires-clause-shut
check_instance-requires-clause-shut c =
    subst AreShut (sym c.deref.ensures.value) (values_shut (system_data c.args.system.now) (map said_put c.as_slice.result.now) c.in_ok-entries.entries.items c.in_ok-entries.ensures)

pub check_instance-requires-clause-closed : goal.check_instance-requires-clause-closed
check_instance-requires-clause-closed c =
    let d = system_data c.args.system.now in
    let t = tm c.args.term.now in
    last_shut d.symbols d.rules c.args.certificate.now.steps t (tm c.args.last.now) c.is_well_made.ensures.rules c.requires.arrives (term_shut d (rtm c.args.certificate.now.term) t c.requires.means)

pub check_instance-requires-clause-fits : goal.check_instance-requires-clause-fits
check_instance-requires-clause-fits c = last_fits _ c.args.certificate.now.steps (tm c.args.term.now) (tm c.args.last.now) c.requires.arrives

pub returns : goal.returns
returns c =
    let d = system_data c.args.system.now in
    let cert = c.args.certificate.now in
    let t = tm c.args.term.now in
    let u = tm c.args.last.now in
    let raw = rtm cert.term in
    let lines = map said_put cert.puts in
    let puts = entry_puts c.in_ok-entries.entries.items in
    let right = subst (λ ps. AreRight d (map said_put ps) puts) c.as_slice.ensures c.in_ok-entries.ensures in
    told_on c.check_instance.result (λ _. HoldsInstance t (entry_puts c.deref.result.now) cert.at u) (λ _. IsValidNo d (said_no cert))
    (IsPlaceFault t (entry_puts c.deref.result.now) cert.at u) (IsFirstFault d (said_no cert)) c.check_instance.ensures
    (λ _ h. valid_claim d raw t u cert.steps cert.at lines puts c.requires.means c.requires.arrives right (subst (λ es. HoldsInstance t (entry_puts es) cert.at u) c.deref.ensures.value h))
    (λ f h. place_fault d raw t u cert.steps cert.at lines puts f c.requires.means c.requires.arrives right (subst (λ es. IsPlaceFault t (entry_puts es) cert.at u f) c.deref.ensures.value h))
