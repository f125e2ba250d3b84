use Rattle.wh_loop_reached.proofs.listing.+steps_to.Given as goal

abbrev pub decreases-steps_to : goal.decreases-steps_to
decreases-steps_to l = l.entry.now.level
