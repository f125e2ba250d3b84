use Rattle.std.proofs.Common.{◌≡◌, ◌<◌, Some, slice_get, length, subst, sym, ◌∙◌, arith}
use Rattle.std.proofs.lemmas.List.{map-id}
use Rattle.std.proofs.lemmas.Iterator.Adapters.{YieldsList-from_vec}
use Rattle.std.proofs.lemmas.Iterator.Consumers.{YieldsList-end}
use Rattle.wh_system.specs.SystemView.{system_data}
use Rattle.wh_loop_steps.specs.StepLists.{ListsAllSteps}
use Rattle.wh_loop_reached.specs.Listing.{tree, IsEntry}
use Rattle.wh_find_loop.specs.Searching.{Tries, TriesOn}
use Rattle.wh_loop_reached.proofs.ListingLemmas.{here_at, all_here}
use Rattle.wh_find_loop.proofs.SpaceLemmas.{shut_typed, plain_typed}
use Rattle.wh_find_loop.proofs.TryLemmas.{entry_space}
use Rattle.wh_find_loop.proofs.SearchLemmas.{trying_none, trying_next, trying_all}
use Rattle.wh_find_loop.proofs.search.search_entry.Goals as goal

pub steps_of-requires-clause-fits : goal.steps_of-requires-clause-fits
steps_of-requires-clause-fits c =
    let d = system_data c.args.setting.now.system.now in
    let l = c.args.listing.now in
    let at = c.args.at in
    let level = c.args.level in
    let e = c.index.result.now in
    let here : slice_get l.entries.items at ≡ Some e = here_at l.entries.items at e c.requires.at c.index.ensures in
    let entry : IsEntry d level e = all_here (IsEntry d level) l.entries.items at e c.requires.listing.each here in
    (entry_space d level e entry).fits

pub steps_of-requires-clause-shut : goal.steps_of-requires-clause-shut
steps_of-requires-clause-shut c =
    let d = system_data c.args.setting.now.system.now in
    let l = c.args.listing.now in
    let at = c.args.at in
    let level = c.args.level in
    let e = c.index.result.now in
    let here : slice_get l.entries.items at ≡ Some e = here_at l.entries.items at e c.requires.at c.index.ensures in
    let entry : IsEntry d level e = all_here (IsEntry d level) l.entries.items at e c.requires.listing.each here in
    shut_typed d.symbols (tree e) entry.typed

pub steps_of-requires-clause-plain : goal.steps_of-requires-clause-plain
steps_of-requires-clause-plain c =
    let d = system_data c.args.setting.now.system.now in
    let l = c.args.listing.now in
    let at = c.args.at in
    let level = c.args.level in
    let e = c.index.result.now in
    let here : slice_get l.entries.items at ≡ Some e = here_at l.entries.items at e c.requires.at c.index.ensures in
    let entry : IsEntry d level e = all_here (IsEntry d level) l.entries.items at e c.requires.listing.each here in
    plain_typed d.symbols (tree e) entry.typed

pub loop-step-init : goal.loop-step-init
loop-step-init c = trying_none (system_data c.args.setting.now.system.now) c.args.level c.args.visited c.args.at c.args.listing.now c.requires.listing c.requires.fewer

pub loop-step-preserved : goal.loop-step-preserved
loop-step-preserved c =
    let d = system_data c.args.setting.now.system.now in
    let l = c.loop-step.listing in
    let new = c.try_step.new.listing in
    let step = c.in-Some.step in
    let next : TriesOn d c.args.level c.args.at step l new = subst (λ o. Tries d c.args.level c.args.at step l o new) c.in_default.is c.in_ok-found.ensures in
    let fewer : length new.entries.items < c.args.visited = omega (arith, c.if-len-visited.false, c.len.ensures, new.entries.ok.0) in
    trying_next d c.args.level c.args.visited c.args.at c.args.listing.now.entries.items l new c.loop-step.yielded step c.loop-step.invariant next fewer

pub returns : goal.returns
returns c =
    let d = system_data c.args.setting.now.system.now in
    let l = c.args.listing.now in
    let at = c.args.at in
    let level = c.args.level in
    let e = c.index.result.now in
    let here : slice_get l.entries.items at ≡ Some e = here_at l.entries.items at e c.requires.at c.index.ensures in
    let entry : IsEntry d level e = all_here (IsEntry d level) l.entries.items at e c.requires.listing.each here in
    let steps = c.in_ok-steps.steps.items in
    let lists : ListsAllSteps d.rules (tree e) steps = subst (λ r. ListsAllSteps r (tree e) steps) c.rules.ensures c.in_ok-steps.ensures in
    let gives = c.into_iter-step-iterator.ensures.into_iter_gives in
    let all = YieldsList-end (YieldsList-from_vec {s = c.into_iter-step-iterator.result} steps gives.0 (gives.1 ∙ c.in_ok-steps.steps.ok.0)) c.loop-step.yielded c.loop-step.step-iterator c.loop-step.yielded_by c.next.result c.next.new.self c.in-None.is c.next.ensures.steps in
    let same : c.loop-step.yielded ≡ steps = sym (map-id c.loop-step.yielded) ∙ all.0 in
    trying_all d level c.args.visited at l.entries.items c.loop-step.listing c.loop-step.yielded steps e c.loop-step.invariant same lists here c.requires.done
