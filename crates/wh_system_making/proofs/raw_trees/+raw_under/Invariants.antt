use Rattle.std.proofs.Common.{◌≡◌, take}
use Rattle.wh_terms.specs.Erase.{tm, tms}
use Rattle.wh_terms.proofs.TermLemmas.{weight, weights}
use Rattle.wh_text.specs.Erase.{rtms}
use Rattle.wh_system.specs.Canonical.{each_raw_below}
use Rattle.wh_system_making.specs.TermNamesView.{term_names}
use Rattle.wh_system_making.proofs.raw_trees.+raw_under.Given as goal

abbrev pub decreases-raw_each : goal.decreases-raw_each
decreases-raw_each l = weights (tms l.items.now)

abbrev pub decreases-raw_under : goal.decreases-raw_under
decreases-raw_under l = weight (tm l.term.now)

abbrev pub invariant-raw_each-loop-item : goal.invariant-raw_each-loop-item
invariant-raw_each-loop-item l = rtms l.raw ≡ each_raw_below (term_names l.names) l.depth (tms (take l.item-index l.item-items))
