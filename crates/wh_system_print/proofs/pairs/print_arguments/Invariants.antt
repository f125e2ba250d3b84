use Rattle.std.proofs.Common.{drop, map}
use Rattle.wh_terms.specs.Erase.{tm}
use Rattle.wh_text.proofs.PrintLemmas.{Leaves}
use Rattle.wh_system_print.specs.PairText.{put_each}
use Rattle.wh_system_print.specs.NameViews.{printed_names}
use Rattle.wh_system_print.proofs.pairs.print_arguments.Given as goal

-- the arguments from here on are left to print
abbrev pub invariant-loop-argument : goal.invariant-loop-argument
invariant-loop-argument l =
    Leaves l.initial.out l.out (put_each (printed_names l.names) (map tm (drop l.argument-index l.arguments))) (put_each (printed_names l.names) (map tm l.arguments))
