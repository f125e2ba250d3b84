use Rattle.std.proofs.Common.{drop}
use Rattle.wh_types.specs.Erase.{tys}
use Rattle.wh_text.proofs.PrintLemmas.{Leaves}
use Rattle.wh_system_print.specs.SystemText.{put_funs}
use Rattle.wh_system_print.proofs.declarations.print_funs.Given as goal

-- the symbols from here on are left to print
abbrev pub invariant-loop-k : goal.invariant-loop-k
invariant-loop-k l = Leaves l.initial.out l.out (put_funs l.sorts (drop l.k l.names) (tys (drop l.k l.kinds))) (put_funs l.sorts l.names (tys l.kinds))
