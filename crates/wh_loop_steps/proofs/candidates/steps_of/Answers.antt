use Rattle.std.proofs.Common.{◌++◌, subst}
use Rattle.wh_terms.specs.Erase.{tm}
use Rattle.wh_step.proofs.PlaceLemmas.{plain_whole}
use Rattle.wh_step.proofs.RootLaws.{at_of_step}
use Rattle.wh_loop_steps.specs.StepLists.{Lists}
use Rattle.wh_loop_steps.proofs.candidates.steps_of.Goals as goal

pub add_steps_below-requires-clause-plain : goal.add_steps_below-requires-clause-plain
add_steps_below-requires-clause-plain c = plain_whole (tm c.args.term.now) c.requires.fits c.requires.shut c.requires.plain

pub returns : goal.returns
returns c k path u s =
    let (S, made) = c.requires.well_made in
    subst (λ w. Lists c.add_steps_below.new.found.items k (w ++ path)) c.new-way.ensures.items (c.in_ok-add_steps_below.ensures.listed k path u (at_of_step S made s))
