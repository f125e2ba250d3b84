use Rattle.std.proofs.Common.{◌≡◌, ◌≤◌, ◌+◌, length, ap, sym, subst, ◌∙◌, arith}
use Rattle.std.proofs.lemmas.List.{length_push}
use Rattle.wh_terms.specs.Erase.{tm}
use Rattle.wh_step.specs.Replay.{Replays}
use Rattle.wh_system.specs.SystemView.{system_data}
use Rattle.wh_cert.specs.Said.{said_no}
use Rattle.wh_loop_starts.specs.Found.{IsLoopCertificate}
use Rattle.wh_loop_reached.specs.Listing.{tree, LeadTo}
use Rattle.wh_loop_reached.proofs.ListingLemmas.{replays_push}
use Rattle.wh_find_loop.proofs.SpaceLemmas.{start_one}
use Rattle.wh_find_loop.proofs.search.certify.Goals as goal

pub certificate_of-requires-clause-leads : goal.certificate_of-requires-clause-leads
certificate_of-requires-clause-leads c =
    let rules = (system_data c.args.system.now).rules in
    let e = c.args.entry.now in
    let start = tm c.args.start.now in
    let steps = c.in_ok-steps.steps in
    let (last, step, fits, instance) = c.requires.leads in
    let lead : LeadTo rules e steps = c.in_ok-steps.ensures rules c.requires.linked c.requires.entry in
    let same : lead.start ≡ start = start_one rules e.visit.start lead.start start lead.is_start c.requires.start in
    (last, replays_push rules steps c.push.new.self c.args.ending.step start (tree e) last c.in_ok-push.ensures.ok (subst (λ s. Replays rules steps s (tree e)) same lead.replays) step fits, instance)

pub returns : goal.returns
returns c level higher deep =
    let d = system_data c.args.system.now in
    let e = c.args.entry.now in
    let steps = c.in_ok-steps.steps in
    let lead : LeadTo d.rules e steps = c.in_ok-steps.ensures d.rules c.requires.linked c.requires.entry in
    let few : length steps ≤ e.level = lead.few in
    let more : length c.push.new.self ≡ length steps + 1 = ap length c.in_ok-push.ensures.ok ∙ length_push steps c.args.ending.step in
    subst (λ x. IsLoopCertificate d level (said_no x)) (sym c.in_ok-new.ensures.ok) (c.in_ok-found.ensures level (omega (arith, few, more, higher)) deep)
