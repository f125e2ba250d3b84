use Rattle.std.proofs.Common.{◌≡◌, ◌<◌, ◌++◌, ◌∷◌, [], List, ap, subst, sym, ◌∙◌}
use Rattle.std.proofs.lemmas.Option.{get_or_from_slice_get, slice_get_within}
use Rattle.std.proofs.lemmas.List.Elements.{All-get_or}
use Rattle.wh_terms.specs.Rules.{RewriteRule}
use Rattle.wh_loop_reached.specs.Listing.{AreAllLinked, IsLinked, LinkedBy, LeadTo}
use Rattle.wh_loop_reached.proofs.ListingLemmas.{lead_start, lead_next}
use Rattle.wh_loop_reached.proofs.listing.+steps_to.Goals as goal

pub returns-in-None : goal.returns-in-None
returns-in-None n c rules all linked =
    lead_start rules c.args.entry.now c.new.result c.new.ensures (subst (LinkedBy rules c.args.entries.now c.args.entry.now) c.in-None.is linked)

pub returns-in_ok-push-in-Some : goal.returns-in_ok-push-in-Some
returns-in_ok-push-in-Some n c rules all linked =
    let entries = c.args.entries.now in
    let e = c.args.entry.now in
    let o = c.in-Some.origin in
    let at = c.index-entries-origin.result in
    let (p, here, from) = subst (LinkedBy rules entries e) c.in-Some.is linked in
    let same : p ≡ at = sym (get_or_from_slice_get entries o.parent p at here) ∙ sym c.index-entries-origin.is in
    let within : o.parent < _ = slice_get_within entries o.parent p here in
    let linked_at : IsLinked rules entries at = subst (IsLinked rules entries) (sym c.index-entries-origin.is) (All-get_or (IsLinked rules entries) entries o.parent at within all) in
    let lead : LeadTo rules p c.in_ok-steps-in-Some.steps = subst (λ x. LeadTo rules x c.in_ok-steps-in-Some.steps) (sym same) (c.in_ok-steps-in-Some.ensures rules all linked_at) in
    let pushed : c.push.new.self ≡ c.in_ok-steps-in-Some.steps ++ o.step ∷ [] = c.in_ok-push-in-Some.ensures.ok ∙ ap (λ s. c.in_ok-steps-in-Some.steps ++ s ∷ []) c.in_ok-copy_step-in-Some.ensures in
    lead_next rules p e o.step c.in_ok-steps-in-Some.steps c.push.new.self from lead pushed
