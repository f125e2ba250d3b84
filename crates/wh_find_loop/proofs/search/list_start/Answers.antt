use Rattle.std.proofs.Common.{◌≤◌, ℕ, None, subst, sym}
use Rattle.wh_terms.specs.Erase.{tm}
use Rattle.wh_terms.specs.Typing.{WellTyped}
use Rattle.wh_terms.specs.Measures.{Fits, size}
use Rattle.wh_terms.proofs.Results.{IfOk-map}
use Rattle.wh_system.specs.Systems.{SystemData}
use Rattle.wh_loop_starts.specs.Starts.{IsStart}
use Rattle.wh_loop_steps.specs.Reducts.{IsCopyInSpace}
use Rattle.wh_loop_reached.specs.Listing.{IsListing, IsEntry, IsLinked, Takes, arrival_of}
use Rattle.wh_find_loop.specs.Searching.{TakesStart}
use Rattle.wh_loop_reached.specs.declared.listing.Entry.{Entry}
use Rattle.wh_find_loop.proofs.SearchLemmas.{takes_no_start, start_entry, takes_start}
use Rattle.wh_find_loop.proofs.search.list_start.Goals as goal

pub returns-in_default : goal.returns-in_default
returns-in_default c d listing start typed =
    takes_no_start d c.args.number (tm c.args.start.now) c.args.listing.now listing (subst (IsCopyInSpace (tm c.args.start.now)) c.in_default.is c.in_ok-term.ensures)

pub returns : goal.returns
returns c =
    let t = tm c.args.start.now in
    let u = c.in-Some.term in
    let n = c.args.number in
    let old = c.args.listing.now in
    let new = c.list_if_new.new.listing in
    let entry : Entry = record { visit = record { start = n; term = u }; level = 0; origin = None } in
    let (same, fits, small) = subst (IsCopyInSpace t) c.in-Some.is c.in_ok-term.ensures in
    let back = sym same in
    IfOk-map (λ _. (d : SystemData) (level : ℕ) → IsListing d level old → IsEntry d level entry → IsLinked d.rules old.entries.items entry → Takes d level old (arrival_of entry) new)
    (λ _. (d : SystemData) → IsListing d 0 old → IsStart d.rules n t → WellTyped d.symbols t → TakesStart d n t old.entries.items new) c.list_if_new.result
    (λ _ takes d listing start typed.
    takes_start d n t u old new same
    (takes d 0 listing (start_entry d n u None (subst (IsStart d.rules n) back start) (subst (WellTyped d.symbols) back typed) (subst Fits back fits) (subst (λ v. size v ≤ 2048) back small)) (subst (IsStart d.rules n) back start)))
    c.list_if_new.ensures
