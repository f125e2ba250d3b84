use Rattle.std.proofs.Common.{drop}
use Rattle.wh_text.specs.Spelling.{put_arguments}
use Rattle.wh_text.specs.Erase.{rtys}
use Rattle.wh_text.proofs.PrintLemmas.{Leaves}
use Rattle.wh_text.proofs.print.+print_part.Given as goal

-- the arguments from here on are left to push
abbrev pub invariant-print_types-loop-arg : goal.invariant-print_types-loop-arg
invariant-print_types-loop-arg l =
    Leaves l.initial.out l.out (put_arguments (rtys (drop l.arg-index l.arg-items))) (put_arguments (rtys l.arg-items))
