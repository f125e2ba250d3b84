-- A line, or the end.
use Rattle.std.proofs.Common.{sym, subst, subst₂}
use Rattle.wh_system.specs.SystemView.{system_data}
use Rattle.wh_cert.specs.Items.{put, end}
use Rattle.wh_cert.specs.Said.{said_item, said_put}
use Rattle.wh_checker.specs.declared.checking.Accepted.TheVariants.{No}
use Rattle.wh_checker_walk.specs.Walking.{Leads, CanCome, AtPuts, IsRefused, IsWhole}
use Rattle.wh_checker_walk.proofs.Passing.{or_on}
use Rattle.wh_checker_walk.proofs.NextItems.{no_other_put}
use Rattle.wh_checker_walk.proofs.place.at_puts.Goals as goal

pub take-requires : goal.take-requires
take-requires c =
    let d = system_data c.args.system.now in
    subst₂ (λ k p. CanCome (AtPuts d k) (put (said_put p))) (sym c.deref_mut.ensures.value) (sym c.deref.ensures)
    (subst (λ i. CanCome (AtPuts d c.args.puts.value) (said_item i)) c.in-Put.is c.requires)

pub returns-in_err-take-in-Put : goal.returns-in_err-take-in-Put
returns-in_err-take-in-Put c = λ ps.
    let d = system_data c.args.system.now in
    let P = AtPuts d c.args.puts.value in
    or_on c.from_residual.result c.in_err-take-in-Put.field-0.0 _ _ _ (λ f. Leads P (said_item c.args.item.now) (IsRefused d f))
    c.from_residual.ensures.1 c.in_err-take-in-Put.ensures (λ f h.
    subst (λ i. Leads P (said_item i) (IsRefused d f)) (sym c.in-Put.is)
    (subst₂ (λ k p. Leads (AtPuts d k) (put (said_put p)) (IsRefused d f)) c.deref_mut.ensures.value c.deref.ensures h))

pub returns-in_ok-take-in-Put : goal.returns-in_ok-take-in-Put
returns-in_ok-take-in-Put c = λ ps.
    let d = system_data c.args.system.now in
    subst (λ i. Leads (AtPuts d c.args.puts.value) (said_item i) (AtPuts d c.take.new.self)) (sym c.in-Put.is)
    (subst₂ (λ k p. Leads (AtPuts d k) (put (said_put p)) (AtPuts d c.take.new.self)) c.deref_mut.ensures.value c.deref.ensures
    c.in_ok-take-in-Put.ensures)

pub accepted-requires : goal.accepted-requires
accepted-requires c =
    let d = system_data c.args.system.now in
    subst (λ k. CanCome (AtPuts d k) end) (sym c.deref-in-End.ensures)
    (subst (λ i. CanCome (AtPuts d c.args.puts.value) (said_item i)) c.in-End.is c.requires)

pub returns-in_err-accepted-in-End : goal.returns-in_err-accepted-in-End
returns-in_err-accepted-in-End c = λ ps.
    let d = system_data c.args.system.now in
    let P = AtPuts d c.args.puts.value in
    or_on c.from_residual-in_err-accepted-in-End.result c.in_err-accepted-in-End.field-0.0 _ _ _
    (λ f. Leads P (said_item c.args.item.now) (IsRefused d f)) c.from_residual-in_err-accepted-in-End.ensures.1
    (c.in_err-accepted-in-End.ensures ps) (λ f h.
    subst (λ i. Leads P (said_item i) (IsRefused d f)) (sym c.in-End.is)
    (subst (λ k. Leads (AtPuts d k) end (IsRefused d f)) c.deref-in-End.ensures h))

pub returns-in_ok-accepted-in-End : goal.returns-in_ok-accepted-in-End
returns-in_ok-accepted-in-End c = λ ps.
    let d = system_data c.args.system.now in
    let a = c.in_ok-accepted-in-End.accepted in
    subst (λ i. Leads (AtPuts d c.args.puts.value) (said_item i) (IsWhole d ps (No a))) (sym c.in-End.is)
    (subst (λ k. Leads (AtPuts d k) end (IsWhole d ps (No a))) c.deref-in-End.ensures (c.in_ok-accepted-in-End.ensures ps))

pub unreachable-requires : goal.unreachable-requires
unreachable-requires c =
    no_other_put (system_data c.args.system.now) c.args.puts.value c.args.item.now c.in_default.not-Put c.in_default.not-End c.requires
