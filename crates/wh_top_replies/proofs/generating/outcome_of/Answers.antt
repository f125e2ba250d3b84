use Rattle.std.proofs.Common.{length, sym, subst}
use Rattle.wh_system.specs.SystemView.{system_data}
use Rattle.wh_cert.specs.Said.{said}
use Rattle.wh_top_replies.specs.Generating.{Comes, comes_yes, comes_no, comes_maybe, nodes_of, usual_options}
use Rattle.wh_top_replies.proofs.Causes.{reason_there}
use Rattle.wh_top_replies.proofs.generating.outcome_of.Goals as goal

pub nodes_of-requires : goal.nodes_of-requires
nodes_of-requires c =
    let is = rw c.in-Yes.is at c.requires.1 in
    is.fits

pub returns-in_ok-text_of-in-Yes : goal.returns-in_ok-text_of-in-Yes
returns-in_ok-text_of-in-Yes c = λ ps found.
    let d = system_data c.args.system.now in
    let cert = said c.in-Yes.certificate in
    let is = rw c.in-Yes.is at found in
    subst (λ n. Comes d ps n c.in_ok-text_of-in-Yes.field-0) (sym c.nodes_of.ensures)
    (subst (Comes d ps (length (nodes_of cert))) (sym c.in_ok-text_of-in-Yes.ensures) (comes_yes cert is))

pub returns-in_ok-text_of-in-No : goal.returns-in_ok-text_of-in-No
returns-in_ok-text_of-in-No c = λ ps found.
    let is = rw c.in-No.is at found in
    subst (Comes (system_data c.args.system.now) ps 0) (sym c.in_ok-text_of-in-No.ensures) (comes_no _ is)

pub reason_text-requires : goal.reason_text-requires
reason_text-requires c =
    let (ps, found) = c.requires in
    let is = rw c.in-Maybe.is at found in
    reason_there (system_data c.args.system.now) ps usual_options c.in-Maybe.cause c.is_well_made.ensures is

pub returns-in_ok-reason_text-in-Maybe : goal.returns-in_ok-reason_text-in-Maybe
returns-in_ok-reason_text-in-Maybe c = λ ps found.
    let is = rw c.in-Maybe.is at found in
    subst (Comes (system_data c.args.system.now) ps 0) (sym c.in_ok-reason_text-in-Maybe.ensures) (comes_maybe c.in-Maybe.cause is)
