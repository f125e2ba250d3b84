use Rattle.std.proofs.Common.{subst₂}
use Rattle.wh_terms.specs.Erase.{tm, rewrite_rules}
use Rattle.wh_step.specs.Replaying.{Replayed}
use Rattle.wh_loop_steps.proofs.ReductLemmas.{reduces_by, no_reduct}
use Rattle.wh_loop_steps.proofs.reduct.reduct_by.Goals as goal

pub returns-in-Ok : goal.returns-in-Ok
returns-in-Ok c =
    let (S, made) = c.requires.well_made in
    let rules = rewrite_rules c.args.rules.now in
    let t = tm c.args.term.now in
    reduces_by S rules c.args.step.now t c.in-Ok.reduct c.if_small.result made (subst₂ (λ l o. Replayed rules l t o) c.from_ref.ensures.value c.in-Ok.is c.in_ok-reduct.ensures) c.if_small.ensures

pub returns-in-Err : goal.returns-in-Err
returns-in-Err c =
    let (S, made) = c.requires.well_made in
    let rules = rewrite_rules c.args.rules.now in
    let t = tm c.args.term.now in
    no_reduct S rules c.args.step.now t c.in-Err.field-0 made (subst₂ (λ l o. Replayed rules l t o) c.from_ref.ensures.value c.in-Err.is c.in_ok-reduct.ensures)
