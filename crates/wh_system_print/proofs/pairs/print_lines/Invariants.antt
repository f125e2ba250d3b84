use Rattle.std.proofs.Common.{drop}
use Rattle.wh_text.proofs.PrintLemmas.{Leaves}
use Rattle.wh_system.specs.SystemView.{system_data}
use Rattle.wh_pairs.specs.Views.{pairs_data}
use Rattle.wh_system_print.specs.PairText.{put_pairs}
use Rattle.wh_system_print.proofs.pairs.print_lines.Given as goal

-- the pairs from here on are left to print
abbrev pub invariant-loop-k : goal.invariant-loop-k
invariant-loop-k l =
    Leaves l.initial.out l.out (put_pairs (system_data l.system) l.k (pairs_data (drop l.k l.pairs))) (put_pairs (system_data l.system) 0 (pairs_data l.pairs))
