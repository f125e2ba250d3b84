use Rattle.std.proofs.Common.{drop, map}
use Rattle.wh_text.proofs.PrintLemmas.{Leaves}
use Rattle.wh_pairs.specs.PairData.{within}
use Rattle.wh_system_print.specs.PairText.{put_conditions}
use Rattle.wh_system_print.specs.NameViews.{printed_names}
use Rattle.wh_system_print.proofs.pairs.print_conditions.Given as goal

-- the conditions from here on are left to print
abbrev pub invariant-loop-condition : goal.invariant-loop-condition
invariant-loop-condition l =
    Leaves l.initial.out l.out (put_conditions (printed_names l.names) (map within (drop l.condition-index l.conditions))) (put_conditions (printed_names l.names) (map within l.conditions))
