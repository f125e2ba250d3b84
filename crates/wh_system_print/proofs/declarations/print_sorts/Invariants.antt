use Rattle.std.proofs.Common.{drop}
use Rattle.wh_text.proofs.PrintLemmas.{Leaves}
use Rattle.wh_system_print.specs.SystemText.{put_sorts}
use Rattle.wh_system_print.proofs.declarations.print_sorts.Given as goal

-- the sorts from here on are left to print
abbrev pub invariant-loop-name : goal.invariant-loop-name
invariant-loop-name l = Leaves l.initial.out l.out (put_sorts (drop l.name-index l.names)) (put_sorts l.names)
