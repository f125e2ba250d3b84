use Rattle.std.proofs.Common.{◌≡◌, ◌<◌, length, Some, slice_get, subst, subst₂, arith}
use Rattle.std.specs.Prelude.{MatchOption}
use Rattle.wh_terms.specs.Erase.{tm}
use Rattle.wh_system.specs.SystemView.{system_data}
use Rattle.wh_loop_starts.specs.Starts.{IsStart}
use Rattle.wh_loop_starts.specs.Space.{HoldsInstanceOf}
use Rattle.wh_loop_starts.specs.Found.{IsInstanceIn}
use Rattle.wh_loop_steps.specs.Reducts.{IsReduct, HasNoReduct, Reduces}
use Rattle.wh_loop_reached.specs.Listing.{tree, IsEntry}
use Rattle.wh_loop_reached.proofs.ListingLemmas.{here_at, all_here}
use Rattle.wh_find_loop.proofs.SpaceLemmas.{shut_typed, plain_typed}
use Rattle.wh_find_loop.proofs.TryLemmas.{start_low, start_is, start_fits, reduct_typed, tries_nothing, next_entry, next_linked, tries_next}
use Rattle.wh_find_loop.proofs.search.try_step.Goals as goal

pub reduct_by-requires-clause-shut : goal.reduct_by-requires-clause-shut
reduct_by-requires-clause-shut c =
    let d = system_data c.args.setting.now.system.now in
    let l = c.args.listing.now in
    let at = c.args.at in
    let level = c.args.level in
    let e = c.index-entry.result.now in
    let here : slice_get l.entries.items at ≡ Some e = here_at l.entries.items at e c.requires.at c.index-entry.ensures in
    let entry : IsEntry d level e = all_here (IsEntry d level) l.entries.items at e c.requires.listing.each here in
    shut_typed d.symbols (tree e) entry.typed

pub reduct_by-requires-clause-plain : goal.reduct_by-requires-clause-plain
reduct_by-requires-clause-plain c =
    let d = system_data c.args.setting.now.system.now in
    let l = c.args.listing.now in
    let at = c.args.at in
    let level = c.args.level in
    let e = c.index-entry.result.now in
    let here : slice_get l.entries.items at ≡ Some e = here_at l.entries.items at e c.requires.at c.index-entry.ensures in
    let entry : IsEntry d level e = all_here (IsEntry d level) l.entries.items at e c.requires.listing.each here in
    plain_typed d.symbols (tree e) entry.typed

pub returns-in_default : goal.returns-in_default
returns-in_default c =
    let d = system_data c.args.setting.now.system.now in
    let l = c.args.listing.now in
    let at = c.args.at in
    let level = c.args.level in
    let e = c.index-entry.result.now in
    let here : slice_get l.entries.items at ≡ Some e = here_at l.entries.items at e c.requires.at c.index-entry.ensures in
    let entry : IsEntry d level e = all_here (IsEntry d level) l.entries.items at e c.requires.listing.each here in
    let nothing : HasNoReduct d.rules c.args.step (tree e) = subst₂ (λ r o. Reduces r c.args.step (tree e) o) c.rules.ensures c.in_default.is c.in_ok-reduct.ensures in
    tries_nothing d level at c.args.step l e c.requires.listing here nothing

pub index-start-requires : goal.index-start-requires
index-start-requires c =
    let d = system_data c.args.setting.now.system.now in
    let l = c.args.listing.now in
    let at = c.args.at in
    let level = c.args.level in
    let e = c.index-entry.result.now in
    let here : slice_get l.entries.items at ≡ Some e = here_at l.entries.items at e c.requires.at c.index-entry.ensures in
    let entry : IsEntry d level e = all_here (IsEntry d level) l.entries.items at e c.requires.listing.each here in
    let starts = c.args.setting.now.plan.now.starts in
    let low : e.visit.start < length starts.items = start_low d starts.items e.level e.visit.start (tree e) c.requires.plan.starts entry.reached in
    omega (arith, low, starts.ok.0)

pub find_instance-requires-clause-start : goal.find_instance-requires-clause-start
find_instance-requires-clause-start c =
    let d = system_data c.args.setting.now.system.now in
    let l = c.args.listing.now in
    let at = c.args.at in
    let level = c.args.level in
    let e = c.index-entry.result.now in
    let here : slice_get l.entries.items at ≡ Some e = here_at l.entries.items at e c.requires.at c.index-entry.ensures in
    let entry : IsEntry d level e = all_here (IsEntry d level) l.entries.items at e c.requires.listing.each here in
    let starts = c.args.setting.now.plan.now.starts in
    let low : e.visit.start < length starts.items = start_low d starts.items e.level e.visit.start (tree e) c.requires.plan.starts entry.reached in
    let start = c.index-start.result.now in
    let is : IsStart d.rules e.visit.start (tm start) = start_is d starts.items e.visit.start start c.requires.plan.starts low c.index-start.ensures in
    (e.visit.start, is)

pub find_instance-requires-clause-typed : goal.find_instance-requires-clause-typed
find_instance-requires-clause-typed c =
    let d = system_data c.args.setting.now.system.now in
    let l = c.args.listing.now in
    let at = c.args.at in
    let level = c.args.level in
    let e = c.index-entry.result.now in
    let here : slice_get l.entries.items at ≡ Some e = here_at l.entries.items at e c.requires.at c.index-entry.ensures in
    let entry : IsEntry d level e = all_here (IsEntry d level) l.entries.items at e c.requires.listing.each here in
    let reduct : IsReduct d.rules c.args.step (tree e) (tm c.in-Some.reduct) = subst₂ (λ r o. Reduces r c.args.step (tree e) o) c.rules.ensures c.in-Some.is c.in_ok-reduct.ensures in
    reduct_typed d c.args.step (tree e) (tm c.in-Some.reduct) c.is_well_made.ensures.rules reduct entry.typed

pub certify-requires-clause-start : goal.certify-requires-clause-start
certify-requires-clause-start c =
    let d = system_data c.args.setting.now.system.now in
    let l = c.args.listing.now in
    let at = c.args.at in
    let level = c.args.level in
    let e = c.index-entry.result.now in
    let here : slice_get l.entries.items at ≡ Some e = here_at l.entries.items at e c.requires.at c.index-entry.ensures in
    let entry : IsEntry d level e = all_here (IsEntry d level) l.entries.items at e c.requires.listing.each here in
    let starts = c.args.setting.now.plan.now.starts in
    let low : e.visit.start < length starts.items = start_low d starts.items e.level e.visit.start (tree e) c.requires.plan.starts entry.reached in
    let start = c.index-start.result.now in
    let is : IsStart d.rules e.visit.start (tm start) = start_is d starts.items e.visit.start start c.requires.plan.starts low c.index-start.ensures in
    is

pub certify-requires-clause-fits : goal.certify-requires-clause-fits
certify-requires-clause-fits c =
    let d = system_data c.args.setting.now.system.now in
    let l = c.args.listing.now in
    let at = c.args.at in
    let level = c.args.level in
    let e = c.index-entry.result.now in
    let here : slice_get l.entries.items at ≡ Some e = here_at l.entries.items at e c.requires.at c.index-entry.ensures in
    let entry : IsEntry d level e = all_here (IsEntry d level) l.entries.items at e c.requires.listing.each here in
    let starts = c.args.setting.now.plan.now.starts in
    let low : e.visit.start < length starts.items = start_low d starts.items e.level e.visit.start (tree e) c.requires.plan.starts entry.reached in
    let start = c.index-start.result.now in
    let is : IsStart d.rules e.visit.start (tm start) = start_is d starts.items e.visit.start start c.requires.plan.starts low c.index-start.ensures in
    start_fits d e.level e.visit.start (tm start) (tree e) is entry.reached

pub returns-in-Some-2 : goal.returns-in-Some-2
returns-in-Some-2 c =
    let d = system_data c.args.setting.now.system.now in
    let l = c.args.listing.now in
    let at = c.args.at in
    let level = c.args.level in
    let e = c.index-entry.result.now in
    let here : slice_get l.entries.items at ≡ Some e = here_at l.entries.items at e c.requires.at c.index-entry.ensures in
    let entry : IsEntry d level e = all_here (IsEntry d level) l.entries.items at e c.requires.listing.each here in
    let less : e.level < level = c.requires.below at e (omega arith) here in
    c.in_ok-found.ensures level less c.requires.deep

pub returns : goal.returns
returns c =
    let d = system_data c.args.setting.now.system.now in
    let l = c.args.listing.now in
    let at = c.args.at in
    let level = c.args.level in
    let e = c.index-entry.result.now in
    let here : slice_get l.entries.items at ≡ Some e = here_at l.entries.items at e c.requires.at c.index-entry.ensures in
    let entry : IsEntry d level e = all_here (IsEntry d level) l.entries.items at e c.requires.listing.each here in
    let starts = c.args.setting.now.plan.now.starts in
    let low : e.visit.start < length starts.items = start_low d starts.items e.level e.visit.start (tree e) c.requires.plan.starts entry.reached in
    let start = c.index-start.result.now in
    let is : IsStart d.rules e.visit.start (tm start) = start_is d starts.items e.visit.start start c.requires.plan.starts low c.index-start.ensures in
    let reduct : IsReduct d.rules c.args.step (tree e) (tm c.in-Some.reduct) = subst₂ (λ r o. Reduces r c.args.step (tree e) o) c.rules.ensures c.in-Some.is c.in_ok-reduct.ensures in
    let less : e.level < level = c.requires.below at e (omega arith) here in
    let none : HoldsInstanceOf d.symbols (tm start) (tm c.in-Some.reduct) → ⊥ =
    subst (λ o. MatchOption o (HoldsInstanceOf d.symbols (tm start) (tm c.in-Some.reduct) → ⊥) (IsInstanceIn d.symbols (tm start) (tm c.in-Some.reduct))) c.in_default-2.is c.in_ok-instance.ensures in
    tries_next d level at c.args.step l c.list_if_new.new.listing e (tm c.in-Some.reduct) (tm start) c.is_well_made.ensures.rules here reduct is none
    (c.in_ok-list_if_new.ensures d level c.requires.listing
    (next_entry d level level c.args.step e c.in-Some.reduct (Some (record { parent = at; step = c.args.step })) (tm start) c.is_well_made.ensures.rules entry less reduct is none)
    (next_linked d level at c.args.step l.entries.items e c.in-Some.reduct here less reduct))
