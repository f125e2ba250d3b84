use Rattle.std.proofs.Common.{◌+◌, ◌*◌, drop}
use Rattle.wh_terms.specs.Erase.{tm, tms}
use Rattle.wh_terms.proofs.TermLemmas.{weight, weights}
use Rattle.wh_text.specs.Spelling.{put_each}
use Rattle.wh_text.proofs.PrintLemmas.{Leaves}
use Rattle.wh_system.specs.Canonical.{each_raw_below}
use Rattle.wh_system_print.specs.NameViews.{printed_names}
use Rattle.wh_system_print.proofs.terms.+print_tree.Given as goal

abbrev pub decreases-print_tree : goal.decreases-print_tree
decreases-print_tree l = 2 * weight (tm l.term.now)

abbrev pub decreases-print_front : goal.decreases-print_front
decreases-print_front l = 2 * weight (tm l.term.now) + 1

abbrev pub decreases-print_bracketed : goal.decreases-print_bracketed
decreases-print_bracketed l = 2 * weights (tms l.items.now) + 1

abbrev pub decreases-print_listed : goal.decreases-print_listed
decreases-print_listed l = 2 * weights (tms l.items.now)

-- the terms from here on are left to print, with the sign before the next one
abbrev pub invariant-print_listed-loop-item : goal.invariant-print_listed-loop-item
invariant-print_listed-loop-item l =
    Leaves l.initial.out l.out (put_each l.sign 44 (each_raw_below (printed_names l.names) l.depth (tms (drop l.item-index l.item-items))))
    (put_each 91 44 (each_raw_below (printed_names l.names) l.depth (tms l.item-items)))
