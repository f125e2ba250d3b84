-- What stands at the place is the instance, or it is not.
use Rattle.std.proofs.Common.{◌≤◌, ◌+◌, ap, sym, subst}
use Rattle.wh_types.specs.Limits.{greatest_number}
use Rattle.wh_terms.specs.Erase.{tm}
use Rattle.wh_terms.specs.Measures.{Fits}
use Rattle.wh_terms.specs.Sight.{IsTerm, LooseBelow}
use Rattle.wh_system.specs.SystemView.{system_data}
use Rattle.wh_cert.specs.Items.{end}
use Rattle.wh_no.specs.Entry.{entry_puts}
use Rattle.wh_no.specs.Unused.{first_unused}
use Rattle.wh_no.specs.Valid.{HoldsInstance}
use Rattle.wh_no.specs.Faults.{IsPlaceFault}
use Rattle.wh_no.proofs.InstanceLemmas.{AreShut}
use Rattle.wh_checker_walk.specs.Walking.{Leads, AtPuts, IsRefused}
use Rattle.wh_checker_walk.specs.declared.steps.Steps.{Steps}
use Rattle.wh_checker_walk.proofs.Passing.{or_on}
use Rattle.wh_checker_walk.proofs.PutsOn.{at_last, puts_whole, puts_not_whole}
use Rattle.wh_checker_walk.proofs.puts.Puts.accepted.Goals as goal

pub check_instance-requires-clause-plain : goal.check_instance-requires-clause-plain
check_instance-requires-clause-plain c =
    subst (λ (s : Steps). IsTerm (tm s.term)) (sym c.deref-steps.ensures)
    (at_last (system_data c.args.system.now) c.args.self.now end c.is_well_made.ensures.rules c.requires).plain

pub check_instance-requires-clause-low : goal.check_instance-requires-clause-low
check_instance-requires-clause-low c =
    subst (λ (s : Steps). first_unused (tm s.term) ≤ greatest_number + 1) (sym c.deref-steps.ensures)
    (at_last (system_data c.args.system.now) c.args.self.now end c.is_well_made.ensures.rules c.requires).low

pub check_instance-requires-clause-shut : goal.check_instance-requires-clause-shut
check_instance-requires-clause-shut c =
    subst AreShut (sym c.deref.ensures.value)
    (at_last (system_data c.args.system.now) c.args.self.now end c.is_well_made.ensures.rules c.requires).shut

pub check_instance-requires-clause-fits : goal.check_instance-requires-clause-fits
check_instance-requires-clause-fits c =
    subst (λ (s : Steps). Fits (tm s.last)) (sym c.deref-steps.ensures)
    (at_last (system_data c.args.system.now) c.args.self.now end c.is_well_made.ensures.rules c.requires).fits

pub check_instance-requires-clause-closed : goal.check_instance-requires-clause-closed
check_instance-requires-clause-closed c =
    subst (λ (s : Steps). LooseBelow 0 (tm s.last)) (sym c.deref-steps.ensures)
    (at_last (system_data c.args.system.now) c.args.self.now end c.is_well_made.ensures.rules c.requires).closed

pub returns-in_err-check_instance : goal.returns-in_err-check_instance
returns-in_err-check_instance c = λ ps.
    let d = system_data c.args.system.now in
    let k = c.args.self.now in
    or_on c.from_residual.result c.in_err-check_instance.field-0.0 _ _ _ (λ f. Leads (AtPuts d k) end (IsRefused d f))
    c.from_residual.ensures.1 c.in_err-check_instance.ensures
    (λ f fault. puts_not_whole d k f
    (subst (λ (s : Steps). IsPlaceFault (tm s.term) (entry_puts k.entries.items) k.at (tm s.last) f) c.deref-steps.ensures
    (subst (λ es. IsPlaceFault (tm c.deref-steps.result.now.term) (entry_puts es) k.at (tm c.deref-steps.result.now.last) f) c.deref.ensures.value
    fault)))

pub returns : goal.returns
returns c = λ ps.
    let k = c.args.self.now in
    puts_whole (system_data c.args.system.now) ps k (record { steps = c.deref-steps.result.now.taken }) c.is_well_made.ensures.rules
    (ap (λ (s : Steps). s.taken) c.deref-steps.ensures)
    (subst (λ (s : Steps). HoldsInstance (tm s.term) (entry_puts k.entries.items) k.at (tm s.last)) c.deref-steps.ensures
    (subst (λ es. HoldsInstance (tm c.deref-steps.result.now.term) (entry_puts es) k.at (tm c.deref-steps.result.now.last)) c.deref.ensures.value
    c.in_ok-check_instance.ensures))
